-- What a reading leaves in the buffers, by each way through it. Assumes nothing.
use Rattle.std.specs.Prelude.{Ok, Err}
use mathlib.Core.Path.{◌≡◌, refl, sym, ap, ◌∙◌}
use mathlib.Core.Bool.{Bool, true, false, cond}
use mathlib.Core.List.{List, [], ◌∷◌, ◌++◌}
use Prim.Native.Nat.{ℕ, ◌*◌, ◌≤◌}
use native.Mathlib.Omega.{arith}
use lib.IntN.{ℤ, pos}
use lib.ListN.{length, take, drop, replicate, take-append-drop}
use lib.Seq.{length-take-le}
use Rattle.rows.specs.Rows.{check, ample, first, then, Fine, Refused, Verdict}
use Rattle.rows.proofs.Tables.{append_fine, held}
use Rattle.rows.specs.declared.Check.{Check}
use Rattle.rows.specs.declared.Row.TheVariants.{Lent}
use Rattle.rows.specs.declared.Field.{Field}
use Rattle.rows.specs.declared.Field.TheVariants.{Marks, Distances}
use Rattle.header.specs.Header.{reading_of}
use Rattle.header.specs.declared.header.Header.{Header}
use Rattle.shapes.specs.Shapes.{shape_of}
use Rattle.planes.proofs.Planes.{planes_length}
use Rattle.damage.specs.Stream.{stream_by}
use Rattle.damage.specs.Pieces.{stream_pieces_by}
use Rattle.slices.specs.Stream.{stream}
use Rattle.slices.specs.Pieces.{stream_pieces}
use Rattle.planes.specs.Values.{Coefficients}
use Rattle.planes.specs.Marks.{bit}
use Rattle.reader.specs.declared.page.Page.{Page}
use Rattle.reader.specs.Settings.{N, room_checks}
use Rattle.reader.specs.Decoding.{samples_from, handed, decoded, pieces}
use Rattle.reader.specs.Page.{header_of, lent_verdict, verdict, samples_by, work_by, page_refused, Reads}
use Rattle.reader.specs.Modes.{decoded_by, verdict_in, pieces_in, coefficients_of, lost_sample, lost_marks, room_checks_in, lent_verdict_in, verdict_of, ReadsDamaged}
use Rattle.reader.specs.Places.{distance_in, distance_plane, room_checks_by, lent_verdict_by, verdict_by, LeavesBy, ReadsBy, ReadsPlaces}
use Rattle.reader.specs.Steps.{filled_by, DecodesBy}

-- ---- row 5 has passed

-- as many cells of a plane as are asked for
plane_room : (asked : Bool) (at : ℕ) (plane : Field) (cells n : ℕ) → first (cond asked (check Lent at plane cells n ample ∷ []) []) ≡ Fine → cond asked n 0 ≤ cells
plane_room false at plane cells n e = omega arith
plane_room true at plane cells n e = (held (check Lent at plane cells n ample ∷ []) e).0.least

pub roomy : (damaged placed : Bool) (h : Header) {a w m d n : ℕ} {v : Verdict} → n ≡ N h → v ≡ first (room_checks_by damaged placed h a w m d) → v ≡ Fine
    → (n ≤ a) × (2 * n ≤ w) × (cond damaged n 0 ≤ m) × (cond placed n 0 ≤ d)
roomy damaged placed h {a} {w} {m} {d} e f fine =
    let all = append_fine (room_checks_in damaged h a w m) (cond placed (check Lent h.slice Distances d (N h) ample ∷ []) []) (sym f ∙ fine) in
    let before = append_fine (room_checks h a w) (cond damaged (check Lent h.slice Marks m (N h) ample ∷ []) []) all.0 in
    let t = held (room_checks h a w) before.0 in (
      omega (arith, e, t.0.least),
      omega (arith, e, t.1.0.least),
      rw e (plane_room damaged h.slice Marks m (N h) before.1),
      rw e (plane_room placed h.slice Distances d (N h) all.1),
    )

-- ---- the lists that fill the buffers

handed_length : (h : Header) (T : Coefficients) → length (handed h T) ≡ N h
unfolding handed
handed_length h T = planes_length (shape_of h) (samples_from h T) h.picture.nc

pub marks_length : (s : List ℕ) (h : Header) → length (lost_marks s h) ≡ N h
unfolding lost_marks
marks_length s h = planes_length (shape_of h) (λ i x y. bit (lost_sample s h i x y)) h.picture.nc

distances_length : (damaged : Bool) (s : List ℕ) (h : Header) → length (distance_plane s h damaged) ≡ N h
unfolding distance_plane
distances_length damaged s h = planes_length (shape_of h) (distance_in s h damaged) h.picture.nc

-- a plane that is asked for is filled, and of another nothing is
asked_length : (asked : Bool) (new : List ℕ) {n m : ℕ} → length new ≡ m → n ≡ m → length (cond asked new []) ≡ cond asked n 0
asked_length false new e f = refl
asked_length true new e f = e ∙ sym f

-- ---- the parts lent on, and the rest

cells_back : (v : Verdict) (new a : List ℕ) (n : ℕ) → length new ≡ n → filled_by v new (take n a) ++ drop n a ≡ samples_by v new a
cells_back (Ok _) new a n e = ap (λ (m : ℕ). new ++ drop m a) (sym e)
cells_back (Err k) new a n e = take-append-drop n a

pub work_back : (w : List ℤ) {n m : ℕ} {w₁ : List ℤ} → n ≡ m → 2 * n ≤ length w → w₁ ≡ replicate (length (take (2 * n) w)) (pos 0) → w₁ ++ drop (2 * n) w ≡ work_by Fine (2 * m) w
work_back w {n} e room zeros =
    (λ i. zeros i ++ drop (2 * n) w)
    ∙ (λ i. replicate (length-take-le (2 * n) w room i) (pos 0) ++ drop (2 * n) w)
    ∙ ap (λ (k : ℕ). replicate (2 * k) (pos 0) ++ drop (2 * k) w) e

module _ {damaged placed : Bool} {s : List ℕ} {h : Header} {v : Verdict} {a : List ℕ} {w : List ℤ} {m d : List ℕ} {r : Page} where
  -- where row 5 has passed
  pub leaves : {n k j : ℕ} {a₁ : List ℕ} {w₁ : List ℤ} {m₁ d₁ : List ℕ} → v ≡ Fine → n ≡ N h → k ≡ cond damaged n 0 → j ≡ cond placed n 0 → 2 * n ≤ length w
      → DecodesBy damaged placed s h (take n a) (take (2 * n) w) (take k m) (take j d) r a₁ w₁ m₁ d₁
      → LeavesBy damaged placed s h v (then v (verdict_in s h damaged)) a w m d r (a₁ ++ drop n a) (w₁ ++ drop (2 * n) w) (m₁ ++ drop k m) (d₁ ++ drop j d)
  leaves {n} {k} {j} e f g q room t =
      rw e
      (record {
        beside =
            record {
              page = t.beside.page;
              samples = (λ i. t.beside.samples i ++ drop n a) ∙ cells_back (verdict_in s h damaged) (handed h (coefficients_of s h damaged)) a n (handed_length h (coefficients_of s h damaged) ∙ sym f);
              work = work_back w f room t.beside.work;
              marks = (λ i. t.beside.marks i ++ drop k m) ∙ cells_back (verdict_in s h damaged) (cond damaged (lost_marks s h) []) m k (asked_length damaged (lost_marks s h) (marks_length s h) f ∙ sym g);
            };
        distances =
            (λ i. t.distances i ++ drop j d)
            ∙ cells_back (verdict_in s h damaged) (cond placed (distance_plane s h damaged) []) d j (asked_length placed (distance_plane s h damaged) (distances_length damaged s h) f ∙ sym q);
      })

  -- where it has not
  pub leaves_none : {k : Check} → v ≡ Refused k → r ≡ page_refused v → LeavesBy damaged placed s h v (then v (verdict_in s h damaged)) a w m d r a w m d
  leaves_none e page = rw e (record { beside = record { page = rw e at page; samples = refl; work = refl; marks = refl }; distances = refl })

-- ---- behind the header

module _ {damaged placed : Bool} {s a : List ℕ} {w : List ℤ} {m d : List ℕ} {r : Page} where
  pub reads : {h : Header} {u : Verdict} {a' : List ℕ} {w' : List ℤ} {m' d' : List ℕ} → (reading_of s).verdict ≡ Fine → h ≡ header_of s
      → u ≡ first (room_checks_by damaged placed h (length a) (length w) (length m) (length d))
      → LeavesBy damaged placed s h u (then u (verdict_in s h damaged)) a w m d r a' w' m' d' → ReadsBy damaged placed s a w m d r a' w' m' d'
  unfolding lent_verdict_by verdict_by
  reads e f g l = rw (e, ← f, ← g) l

  pub reads_none : {k : Check} → (reading_of s).verdict ≡ Refused k → r ≡ page_refused (reading_of s).verdict → ReadsBy damaged placed s a w m d r a w m d
  unfolding lent_verdict_by verdict_by
  reads_none e page = rw e (record { beside = record { page = rw e at page; samples = refl; work = refl; marks = refl }; distances = refl })

-- ---- a reading that is lent no marks, or no plane of distances

none_left : (v : Verdict) → [] ≡ samples_by v [] []
none_left (Ok _) = refl
none_left (Err k) = refl

pub reads_plain : {s a a' : List ℕ} {w w' : List ℤ} {m' d' : List ℕ} {r : Page} → ReadsBy false false s a w [] [] r a' w' m' d' → Reads s a w r a' w'
unfolding lent_verdict_by verdict_by decoded_by stream_by lent_verdict verdict decoded stream pieces_in stream_pieces_by pieces stream_pieces
reads_plain x = record { page = x.beside.page; samples = x.beside.samples; work = x.beside.work }

pub reads_damaged : {s a m a' m' : List ℕ} {w w' : List ℤ} {d' : List ℕ} {r : Page} → ReadsBy true false s a w m [] r a' w' m' d' → ReadsDamaged s a w m r a' w' m'
unfolding lent_verdict_by verdict_by lent_verdict_in verdict_of
reads_damaged x = x.beside

pub reads_places : {s a d a' d' : List ℕ} {w w' : List ℤ} {m' : List ℕ} {r : Page} → ReadsBy false true s a w [] d r a' w' m' d' → ReadsPlaces s a w d r a' w' d'
reads_places {s} {a} {d} {w = w} x =
    record {
      beside = record { page = x.beside.page; samples = x.beside.samples; work = x.beside.work; marks = none_left (verdict_by false true s (length a) (length w) 0 (length d)) };
      distances = x.distances;
    }
