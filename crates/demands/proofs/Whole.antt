-- A page that `read` reads is read alike in the mode for damaged pages, and no sample of it is marked. Assumes nothing.
use mathlib.Core.Path.{◌≡◌, sym, ap, ◌∙◌}
use mathlib.Core.Bool.{true, false}
use mathlib.Core.List.{List, [], ◌∷◌, ◌++◌}
use Prim.Native.Nat.{ℕ, ◌*◌}
use native.Mathlib.Omega.{arith}
use lib.IntN.{ℤ}
use lib.ListN.{length, drop, replicate, length-replicate, get_or-replicate}
use lib.Seq.{ext_get_or}
use Rattle.rows.specs.Rows.{check, ample, first, then, Fine}
use Rattle.rows.specs.declared.Row.TheVariants.{Lent}
use Rattle.rows.specs.declared.Field.TheVariants.{Marks}
use Rattle.rows.proofs.Tables.{then_fine, first_append}
use Rattle.pieces.specs.Pieces.{bytes_of}
use Rattle.header.specs.Header.{reading_of}
use Rattle.header.specs.Pieces.{header_pieces}
use Rattle.damage.proofs.Walked.{damaged_same, damaged_unspoilt}
use Rattle.damage.proofs.Pieces.{pieces_whole}
use Rattle.planes.specs.Values.{planes}
use Rattle.planes.specs.Marks.{bit}
use Rattle.planes.specs.Places.{Inside, coefficients_in}
use Rattle.planes.proofs.Planes.{planes_length, planes_each}
use Rattle.planes.proofs.Marking.{no_marks}
use Rattle.reader.specs.declared.page.Page.{Page}
use Rattle.reader.specs.Settings.{N, room_checks}
use Rattle.reader.specs.Decoding.{handed, distances_from, decoded, decoded_verdict, pieces}
use Rattle.reader.specs.Page.{header_of, lent_verdict, verdict, page_by, samples_by, work_by, Reads}
use Rattle.reader.specs.Modes.{decoded_by, pieces_in, lost_at, lost_sample, lost_marks, room_checks_in, lent_verdict_in, verdict_of, ReadsDamaged}
use Rattle.reader.specs.Steps.{Opened}
use Rattle.reader.proofs.Openings.{colours}
use Rattle.demands.specs.Stored.{shape, setting, beginning}
use Rattle.demands.specs.Damaged.{WholeAs}
use Rattle.demands.proofs.Accepted.{verdict_fine, page_read}
use Rattle.demands.proofs.Stored.{slice_inside}

module _ {s : List ℕ} (o : Opened s (header_of s)) (fine : decoded_verdict s (header_of s) ≡ Fine) where
  -- the slices leave the same in both modes, and none is spoilt
  same_slices : decoded_by s (header_of s) true ≡ decoded s (header_of s)
  unfolding decoded_by decoded
  same_slices =
      let e : decoded s (header_of s) ≡ (Fine, (decoded s (header_of s)).1) = λ i. (fine i, (decoded s (header_of s)).1) in
      damaged_same s (setting s) (beginning s) (decoded s (header_of s)).1 e ∙ sym e

  -- and have the same pieces
  same_pieces : pieces_in s (header_of s) true ≡ pieces s (header_of s)
  unfolding pieces_in pieces decoded
  same_pieces = λ i. header_pieces s ++ pieces_whole s (setting s) (beginning s) (decoded s (header_of s)).1 (λ j. (fine j, (decoded s (header_of s)).1)) i

  pub unspoilt : (i x y : ℕ) → Inside (shape s) i x y → lost_sample s (header_of s) i x y ≡ false
  unfolding lost_sample decoded
  unspoilt =
      no_marks o.shape (colours o.accepted.ranges) (lost_at s (header_of s))
      (λ i h k dx dy x y d. damaged_unspoilt s (setting s) (beginning s) (decoded s (header_of s)).1 (λ i. (fine i, (decoded s (header_of s)).1)) _ (slice_inside o h d))

  no_marks_left : lost_marks s (header_of s) ≡ replicate (N (header_of s)) 0
  unfolding lost_marks
  no_marks_left =
      let f : ℕ → ℕ → ℕ → ℕ = λ i x y. bit (lost_sample s (header_of s) i x y) in
      let long = planes_length (shape s) f (shape s).nc in
      ext_get_or 0 (planes (shape s) f (shape s).nc) (replicate (N (header_of s)) 0) (long ∙ sym (length-replicate {A = ℕ} (N (header_of s)) 0))
      (λ n l.
      planes_each o.shape f (λ (k : ℕ). k ≡ 0) (λ i x y p. ap bit (unspoilt i x y p)) n (omega (arith, l, long))
      ∙ sym (get_or-replicate {A = ℕ} (N (header_of s)) n 0 0 (omega (arith, l, long))))

-- row 5's third check
enough_room : (s : List ℕ) (a w m : ℕ) → first (room_checks (header_of s) a w) ≡ Fine → first (check Lent (header_of s).slice Marks m (N (header_of s)) ample ∷ []) ≡ Fine
    → first (room_checks_in true (header_of s) a w m) ≡ Fine
enough_room s a w m e f =
    let marks = check Lent (header_of s).slice Marks m (N (header_of s)) ample ∷ [] in
    first_append (room_checks (header_of s) a w) marks ∙ (λ i. then (e i) (f i))

-- where the marks that are lent are enough
pub damaged_page_whole : {s a a' m b' m' : List ℕ} {w w' v' : List ℤ} {r q : Page} → Reads s a w r a' w' → r.answer ≡ 0 → ReadsDamaged s a w m q b' v' m'
    → first (check Lent (header_of s).slice Marks (length m) (N (header_of s)) ample ∷ []) ≡ Fine → WholeAs s a' w' r m b' v' m' q
unfolding lent_verdict verdict lent_verdict_in verdict_of
damaged_page_whole {s} {a} {m = m} {w = w} reads e mends room =
    let h = header_of s in
    let page = page_read reads e in
    let all = verdict_fine reads e in
    let lent = (then_fine (lent_verdict s (length a) (length w)) (decoded_verdict s h) all).0 in
    let parts = then_fine (reading_of s).verdict (first (room_checks h (length a) (length w))) lent in
    let same = same_slices page.opened page.fine in
    let lent' : lent_verdict_in true s (length a) (length w) (length m) ≡ Fine = λ i. then (parts.0 i) (enough_room s (length a) (length w) (length m) parts.1 room i) in
    let all' : verdict_of true s (length a) (length w) (length m) ≡ Fine = (λ i. then (lent' i) (same i).0) ∙ page.fine in
    record {
      page =
          mends.page
          ∙ (λ i. page_by (all' i) h (distances_from h (same i).1.1) (bytes_of (same_pieces page.opened page.fine i)))
          ∙ sym (reads.page ∙ (λ i. page_by (all i) h (distances_from h (decoded s h).1.1) (bytes_of (pieces s h))));
      samples = mends.samples ∙ (λ i. samples_by (all' i) (handed h (coefficients_in (shape s) (same i).1.2)) a) ∙ sym (reads.samples ∙ (λ i. samples_by (all i) (handed h (coefficients_in (shape s) (decoded s h).1.2)) a));
      work = mends.work ∙ (λ i. work_by (lent' i) (2 * N h) w) ∙ sym (reads.work ∙ (λ i. work_by (lent i) (2 * N h) w));
      marks = mends.marks ∙ (λ i. samples_by (all' i) (no_marks_left page.opened page.fine i) m) ∙ (λ i. replicate (N h) 0 ++ drop (length-replicate {A = ℕ} (N h) 0 i) m);
    }
