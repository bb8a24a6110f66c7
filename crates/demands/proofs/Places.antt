-- A reading with a plane of distances: beside the plane it leaves what a reading without it leaves, and the plane keeps the customer's demands. Assumes nothing.
use Rattle.std.specs.Prelude.{Ok, Err}
use mathlib.Core.Path.{◌≡◌, refl, sym, ap, ◌∙◌, subst}
use mathlib.Core.Bool.{Bool, true, false, cond}
use mathlib.Core.List.{List, [], ◌∷◌, ◌++◌}
use Prim.Native.Nat.{ℕ, ◌+◌, ◌*◌, ◌≤◌, ◌<◌}
use native.Mathlib.Omega.{arith}
use borrow.Author.Tests.{lt-ltb}
use lib.IntN.{ℤ}
use lib.ListN.{length, get_or, drop}
use Rattle.rows.specs.Rows.{answer, check, ample, first, then, Fine, Refused, Verdict}
use Rattle.rows.specs.declared.Check.{Check}
use Rattle.rows.specs.declared.Row.TheVariants.{Lent}
use Rattle.rows.specs.declared.Field.TheVariants.{Marks, Distances}
use Rattle.rows.proofs.Tables.{then_fine, first_append, answer_most}
use Rattle.rows.proofs.Sites.{Standing}
use Rattle.pieces.specs.Pieces.{bytes_of}
use Rattle.header.specs.Header.{reading_of}
use Rattle.slices.specs.Stream.{stream}
use Rattle.slices.specs.Table.{stream_checks}
use Rattle.slices.specs.Walk.{walk_table}
use Rattle.slices.proofs.Table.{stream_table}
use Rattle.slices.proofs.PrecinctLaws.{one_fine}
use Rattle.layout.specs.Bands.{Wc}
use Rattle.layout.specs.Cells.{samples}
use Rattle.damage.specs.Stream.{stream_by}
use Rattle.damage.proofs.Walked.{damaged_table}
use Rattle.planes.specs.Values.{planes}
use Rattle.planes.specs.Marks.{bit}
use Rattle.planes.specs.Places.{Inside}
use Rattle.planes.proofs.Planes.{planes_same}
use Rattle.reader.specs.declared.page.Page.{Page}
use Rattle.reader.specs.Settings.{N}
use Rattle.reader.specs.Decoding.{distances_from}
use Rattle.reader.specs.Page.{header_of, page_by, samples_by, Reads}
use Rattle.reader.specs.Modes.{decoded_by, verdict_in, tops_in, pieces_in, lost_sample, room_checks_in, lent_verdict_in, verdict_of, LeavesIn, ReadsIn, ReadsDamaged}
use Rattle.reader.specs.Places.{place_distance, distance_in, distance_plane, room_checks_by, lent_verdict_by, verdict_by, ReadsBy, ReadsPlaces, ReadsDamagedPlaces}
use Rattle.demands.specs.Stored.{shape, setting, beginning, scaled_up}
use Rattle.demands.specs.Lost.{spared}
use Rattle.demands.specs.Uncut.{Uncut}
use Rattle.demands.specs.Damaged.{lost, mark_at, UncutKept, WholeAs}
use Rattle.demands.specs.Places.{distance_at, OnePlane, OneBeside, table_with, page_table_with, TwoPlane, ThreePlaces, ThreeDamagedPlaces, ExactPlaces, ExactDamagedPlaces, ShortPlane}
use Rattle.demands.proofs.Unique.{unique, unique_in}
use Rattle.demands.proofs.Accepted.{answer_in, fine_in, judged, PageIn, plane_at, plane_behind, page_in, plain_in, in_plain, page_read}
use Rattle.demands.proofs.One.{left, place_by, samples_in, marks_in}
use Rattle.demands.proofs.Two.{then_again, joined_tables, accepted_by, refused_by}
use Rattle.demands.proofs.Three.{page_most, page_near_places}
use Rattle.demands.proofs.Lost.{spared_near_places, spared_most}
use Rattle.demands.proofs.Exact.{record_exact}
use Rattle.demands.proofs.Damaged.{judged_few, leads, reads_kept, zeros, shielded, counted, mark_none, damaged_record_exact}
use Rattle.demands.proofs.Whole.{unspoilt, damaged_page_whole}

-- ---- row 5 with the plane, which is looked at last

abbrev plane_check : List ℕ → ℕ → Check
plane_check s d = check Lent (header_of s).slice Distances d (N (header_of s)) ample

then_all : (v : Verdict) → then v Fine ≡ v
then_all (Ok _) = refl
then_all (Err c) = refl

module _ (damaged : Bool) (s : List ℕ) (a w m d : ℕ) where
  lent_with : lent_verdict_by damaged true s a w m d ≡ then (lent_verdict_in damaged s a w m) (first (plane_check s d ∷ []))
  unfolding lent_verdict_by lent_verdict_in
  lent_with =
      let room = room_checks_in damaged (header_of s) a w m in
      (λ i. then (reading_of s).verdict (first_append room (plane_check s d ∷ []) i)) ∙ sym (then_again (reading_of s).verdict (first room) (first (plane_check s d ∷ [])))

  -- one that is enough makes no difference
  module _ (enough : first (plane_check s d ∷ []) ≡ Fine) where
    same_lent : lent_verdict_by damaged true s a w m d ≡ lent_verdict_in damaged s a w m
    same_lent = lent_with ∙ (λ i. then (lent_verdict_in damaged s a w m) (enough i)) ∙ then_all (lent_verdict_in damaged s a w m)

    same_verdict : verdict_by damaged true s a w m d ≡ verdict_of damaged s a w m
    unfolding verdict_by verdict_of
    same_verdict = λ i. then (same_lent i) (verdict_in s (header_of s) damaged)

  -- it is enough where nothing is refused
  with_enough : verdict_by damaged true s a w m d ≡ Fine → first (plane_check s d ∷ []) ≡ Fine
  unfolding verdict_by
  with_enough e =
      (then_fine (lent_verdict_in damaged s a w m) (first (plane_check s d ∷ []))
      (sym lent_with ∙ (then_fine (lent_verdict_by damaged true s a w m d) (verdict_in s (header_of s) damaged) e).0)).1

  -- and one that is short is refused where nothing else is
  with_short : verdict_of damaged s a w m ≡ Fine → d < N (header_of s) → verdict_by damaged true s a w m d ≡ Refused (plane_check s d)
  unfolding verdict_of verdict_by
  with_short e l =
      let short : first (plane_check s d ∷ []) ≡ Refused (plane_check s d) = rw (lt-ltb d (N (header_of s)) l) in
      let room = (then_fine (lent_verdict_in damaged s a w m) (verdict_in s (header_of s) damaged) e).0 in
      λ i. then ((lent_with ∙ (λ j. then (room j) (short j))) i) (verdict_in s (header_of s) damaged)

-- ---- a reading with the plane, in either mode

module _ {damaged : Bool} {s a : List ℕ} {w : List ℤ} {m d : List ℕ} {q : Page} {b' : List ℕ} {v' : List ℤ} {n' d' : List ℕ}
    (reads : ReadsBy damaged true s a w m d q b' v' n' d') where
  -- is one without it, where the plane is enough: so all that is proved of a reading without it holds of this one
  without : first (plane_check s (length d) ∷ []) ≡ Fine → ReadsIn damaged s a w m q b' v' n'
  without enough =
      let lent = same_lent damaged s (length a) (length w) (length m) (length d) enough in
      let all = same_verdict damaged s (length a) (length w) (length m) (length d) enough in
      subst (λ (v : Verdict × Verdict). LeavesIn damaged s (header_of s) v.0 v.1 a w m q b' v' n') (λ i. (lent i, all i)) reads.beside

  pub without_plane : N (header_of s) ≤ length d → length d ≤ ample → ReadsIn damaged s a w m q b' v' n'
  without_plane enough few = without (one_fine (plane_check s (length d)) enough few)

  -- such it is where the page is read
  pub read_without : q.answer ≡ 0 → ReadsIn damaged s a w m q b' v' n'
  read_without e = without (with_enough damaged s (length a) (length w) (length m) (length d) (fine_in reads.beside e))

  -- the plane of a page that is read
  written : q.answer ≡ 0 → d' ≡ planes (shape s) (distance_in s (header_of s) damaged) (shape s).nc ++ drop (length (planes (shape s) (distance_in s (header_of s) damaged) (shape s).nc)) d
  unfolding distance_plane
  written e = reads.distances ∙ (λ i. samples_by (fine_in reads.beside e i) (distance_plane s (header_of s) damaged) d)

  distance_is : q.answer ≡ 0 → (i x y : ℕ) → Inside (shape s) i x y → distance_at s d' i x y ≡ distance_in s (header_of s) damaged i x y
  distance_is e i x y p =
      ap (λ (l : List ℕ). get_or l (samples (shape s) i + (y * Wc (shape s) i + x)) 0) (written e) ∙ plane_at s d (distance_in s (header_of s) damaged) i x y p

  -- a refused page leaves the plane, and one that is read the cells behind the N
  pub one_plane_lem : OnePlane s d q d'
  one_plane_lem =
      record {
        refused = λ some. reads.distances ∙ left (verdict_by damaged true s (length a) (length w) (length m) (length d)) _ d (λ e. some (answer_in reads.beside ∙ e));
        rest = λ e n l. ap (λ (l : List ℕ). get_or l n 0) (written e) ∙ plane_behind s d (distance_in s (header_of s) damaged) n l;
      }

  -- and beside the plane the same as without it, also where it is short
  pub one_beside : OneBeside damaged s a w m d q b' v' n'
  unfolding verdict_by lent_verdict_by
  one_beside =
      record {
        answer = rw (answer_in reads.beside) (by damaged);
        place = place_by reads.beside (room damaged) (λ n l. stands n l damaged) refl;
        samples = samples_in reads.beside;
        marks = marks_in reads.beside;
        work = reads.beside.work;
      }
    where
      room : Bool → List Check
      room damaged = room_checks_by damaged true (header_of s) (length a) (length w) (length m) (length d)

      by : (damaged : Bool) → answer (judged damaged s (room damaged)) ≤ cond damaged 6 8
      by false = answer_most (judged false s (room false))
      by true = judged_few s (room true) (omega arith)

      stands : (n : ℕ) → (header_of s).slice ≤ n → (damaged : Bool) → Standing n (room damaged)
      stands n l false = omega arith
      stands n l true = omega arith

  -- a reading of the same stream into the same buffers, without the plane
  module _ {r : Page} {a' : List ℕ} {w' : List ℤ} {m' : List ℕ} (plain : ReadsIn damaged s a w m r a' w' m') where
    beside_in : N (header_of s) ≤ length d → length d ≤ ample → (q ≡ r) × (b' ≡ a') × (v' ≡ w') × (n' ≡ m')
    beside_in enough few = unique_in (without_plane enough few) plain

    short_in : ShortPlane s (length d) r q
    short_in e l =
        let short = with_short damaged s (length a) (length w) (length m) (length d) (fine_in plain e) l in
        let page = reads.beside.page ∙ (λ i. page_by (short i) (header_of s) (distances_from (header_of s) (tops_in s (header_of s) damaged)) (bytes_of (pieces_in s (header_of s) damaged))) in
        ((λ i. (page i).answer), λ i. (page i).place)

-- ---- a page

module _ {s a : List ℕ} {w : List ℤ} {d : List ℕ} {r : Page} {a' : List ℕ} {w' : List ℤ} {d' : List ℕ} (reads : ReadsPlaces s a w d r a' w' d') where
  -- where it is read, `read` reads it so
  plain : r.answer ≡ 0 → Reads s a w r a' w'
  plain e = in_plain (read_without reads e)

  place_is : r.answer ≡ 0 → (i x y : ℕ) → Inside (shape s) i x y → distance_at s d' i x y ≡ place_distance s (header_of s) i x y
  unfolding distance_in
  place_is = distance_is reads

  -- the table with the plane's check decides, and each distance is the rule's
  pub two_plane : TwoPlane (table_with s (length a) (length w) (length d)) s (place_distance s (header_of s)) r d'
  unfolding verdict_by lent_verdict_by decoded_by stream_by stream table_with
  two_plane =
      let t = table_with s (length a) (length w) (length d) in
      let room = room_checks_by false true (header_of s) (length a) (length w) 0 (length d) in
      let by_table = joined_tables s room (stream_checks s (setting s) (beginning s)) (stream_table s (setting s) (beginning s)) in
      record { accepted = accepted_by reads.beside t by_table; refused = refused_by reads.beside t by_table; distance = place_is }

  -- each sample is within its own distance, which is at most its component's
  pub three_places : r.answer ≡ 0 → ThreePlaces s a' d' r
  three_places e =
      let page = page_read (plain e) e in
      record {
        near = λ C q i x y p. rw (place_is e i x y p, page.sample i x y p) (page_near_places page.opened page.fine q i x y p);
        most = λ i x y p. rw (place_is e i x y p, page.distances) (page_most page.opened page.fine i x y p);
      }

  pub exact_places : r.answer ≡ 0 → Uncut s → ExactPlaces s d'
  exact_places e uncut i x y p = omega (arith, (three_places e).most i x y p, record_exact (page_read (plain e) e) uncut i)

-- beside the plane stands what `read` leaves, where the plane is enough; and a short plane is 5
pub beside : {s a a' b' d d' : List ℕ} {w w' v' : List ℤ} {r q : Page} → Reads s a w r a' w' → ReadsPlaces s a w d q b' v' d'
    → N (header_of s) ≤ length d → length d ≤ ample → (q ≡ r) × (b' ≡ a') × (v' ≡ w')
beside reads places enough few = unique (in_plain (without_plane places enough few)) reads

pub short_plane : {s a a' b' d d' : List ℕ} {w w' v' : List ℤ} {r q : Page} → Reads s a w r a' w' → ReadsPlaces s a w d q b' v' d' → ShortPlane s (length d) r q
short_plane reads places = short_in places (plain_in reads)

-- ---- a damaged page

marked : (b : Bool) → bit b ≡ 1 → b ≡ true
marked true e = refl
marked false e = absurd (omega (arith, e))

module _ {s a : List ℕ} {w : List ℤ} {m d : List ℕ} {r : Page} {a' : List ℕ} {w' : List ℤ} {m' d' : List ℕ} (reads : ReadsDamagedPlaces s a w m d r a' w' m' d') where
  page : r.answer ≡ 0 → PageIn true s a' m' r
  page e = page_in (read_without reads e) e

  -- a sample without mark has its own distance
  kept_is : r.answer ≡ 0 → (i x y : ℕ) → Inside (shape s) i x y → mark_at s m' i x y ≡ 0 → distance_at s d' i x y ≡ place_distance s (header_of s) i x y
  unfolding distance_in
  kept_is e i x y p none = distance_is reads e i x y p ∙ rw (mark_none (page e) i x y p none)

  pub two_damaged_plane : TwoPlane (page_table_with s (length a) (length w) (length m) (length d)) s (distance_in s (header_of s) true) r d'
  unfolding verdict_by lent_verdict_by decoded_by page_table_with
  two_damaged_plane =
      let t = page_table_with s (length a) (length w) (length m) (length d) in
      let room = room_checks_by true true (header_of s) (length a) (length w) (length m) (length d) in
      let by_table = joined_tables s room (walk_table s (setting s) (header_of s).slice) (damaged_table s (setting s) (beginning s)) in
      record { accepted = accepted_by reads.beside t by_table; refused = refused_by reads.beside t by_table; distance = distance_is reads }

  pub three_damaged_places : r.answer ≡ 0 → ThreeDamagedPlaces s a' m' d' r
  unfolding distance_in lost_sample
  three_damaged_places e =
      let o = (page e).opened in
      let fine = (page e).fine in
      record {
        near = λ C q i x y p none.
            rw (kept_is e i x y p none, (page e).sample i x y p, ← shielded o fine (scaled_up s (spared s (lost s) C)) (scaled_up s C) (counted o fine C) i x y p (mark_none (page e) i x y p none))
            (spared_near_places o (leads o fine) (lost s) (reads_kept o fine) (zeros o fine) q i x y p);
        most = λ i x y p none.
            rw (kept_is e i x y p none, (page e).distances)
            (spared_most o (leads o fine) (lost s) (reads_kept o fine) (zeros o fine) i x y p (mark_none (page e) i x y p none));
        lost = λ i x y p one. distance_is reads e i x y p ∙ rw (marked (lost_sample s (header_of s) i x y) (sym ((page e).mark refl i x y p) ∙ one));
      }

  pub exact_damaged_places : r.answer ≡ 0 → UncutKept s → ExactDamagedPlaces s m' d'
  exact_damaged_places e uncut i x y p none = omega (arith, (three_damaged_places e).most i x y p none, damaged_record_exact (page e) uncut i)

pub beside_damaged : {s a a' b' m m' n' d d' : List ℕ} {w w' v' : List ℤ} {r q : Page} → ReadsDamaged s a w m r a' w' m' → ReadsDamagedPlaces s a w m d q b' v' n' d'
    → N (header_of s) ≤ length d → length d ≤ ample → (q ≡ r) × (b' ≡ a') × (v' ≡ w') × (n' ≡ m')
beside_damaged reads places = beside_in places reads

pub short_plane_damaged : {s a a' b' m m' n' d d' : List ℕ} {w w' v' : List ℤ} {r q : Page} → ReadsDamaged s a w m r a' w' m' → ReadsDamagedPlaces s a w m d q b' v' n' d'
    → ShortPlane s (length d) r q
short_plane_damaged reads places = short_in places reads

-- a page that `read_places` reads is read alike in the mode, with the same plane, where the marks that are lent are enough
pub places_whole : {s a a' m b' m' d d' e' : List ℕ} {w w' v' : List ℤ} {r q : Page} → ReadsPlaces s a w d r a' w' d' → r.answer ≡ 0
    → ReadsDamagedPlaces s a w m d q b' v' m' e' → N (header_of s) ≤ length m → length m ≤ ample → WholeAs s a' w' r m b' v' m' q × (e' ≡ d')
unfolding distance_in
places_whole {s} {a} {m = m} {d = d} {w = w} places e mends enough few =
    let read = plain places e in
    let room = with_enough false s (length a) (length w) 0 (length d) (fine_in places.beside e) in
    let whole = damaged_page_whole read e (without mends room) (one_fine (check Lent (header_of s).slice Marks (length m) (N (header_of s)) ample) enough few) in
    let p = page_read read e in
    let same =
    planes_same p.opened.shape (distance_in s (header_of s) true) (distance_in s (header_of s) false) (λ i x y h. rw (unspoilt p.opened p.fine i x y h)) in
    (whole, written mends (ap (λ (q : Page). q.answer) whole.page ∙ e) ∙ (λ i. same i ++ drop (length (same i)) d) ∙ sym (written places e))
