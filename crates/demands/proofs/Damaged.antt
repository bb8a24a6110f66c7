-- The customer's demands hold of every damaged page, of its samples marked 0. Assumes nothing.
use Rattle.std.specs.Prelude.{Ok, Err}
use mathlib.Core.Path.{◌≡◌, refl, sym, ap, ◌∙◌}
use mathlib.Core.Bool.{Bool, true, false}
use mathlib.Core.List.{List, ◌++◌}
use Prim.Native.Nat.{ℕ, ◌*◌, ◌≤◌, ◌<◌}
use native.Mathlib.Omega.{arith}
use lib.IntN.{ℤ, pos}
use lib.ListN.{length, get_or, drop, length-replicate, get_or-append}
use Rattle.rows.specs.Rows.{answer, first, then, Fine, Verdict}
use Rattle.rows.specs.declared.Check.{Check}
use Rattle.rows.proofs.Low.{Low, low}
use Rattle.layout.specs.Precincts.{slices}
use Rattle.layout.proofs.Cells.{inside}
use Rattle.header.specs.Header.{reading_of}
use Rattle.header.proofs.Rows.{header_few}
use Rattle.loops.specs.Before.{before}
use Rattle.slices.specs.Walk.{walk_table}
use Rattle.slices.proofs.Coefficients.{ReadsOne}
use Rattle.damage.proofs.Reaching.{damaged_left, damaged_stands}
use Rattle.damage.proofs.Laws.{damaged_tops_most}
use Rattle.damage.proofs.Walked.{damaged_table, damaged_answer}
use Rattle.damage.proofs.Kept.{lost_zero, kept_reads}
use Rattle.planes.specs.Values.{Coefficients, planes}
use Rattle.planes.specs.Marks.{bit}
use Rattle.planes.specs.Places.{Inside}
use Rattle.planes.proofs.Laws.{samples_of_same}
use Rattle.planes.proofs.Planes.{planes_length, planes_each}
use Rattle.planes.proofs.Marking.{shield}
use Rattle.reader.specs.declared.page.Page.{Page}
use Rattle.reader.specs.Settings.{depth_of, N}
use Rattle.reader.specs.Decoding.{samples_from, begun}
use Rattle.reader.specs.Page.{header_of, samples_by}
use Rattle.reader.specs.Modes.{decoded_by, verdict_in, tops_in, coefficients_of, lost_sample, lost_marks, room_checks_in, lent_verdict_in, verdict_of, ReadsDamaged}
use Rattle.reader.specs.Steps.{Opened}
use Rattle.reader.proofs.Openings.{settled, colours}
use Rattle.reader.proofs.Lost.{row_slice}
use Rattle.reader.proofs.Decoded.{none_yet}
use Rattle.demands.specs.Stored.{shape, setting, beginning, Each, scaled_up, dequantised_from}
use Rattle.demands.specs.Lost.{lost_at, spared}
use Rattle.demands.specs.Damaged.{damaged_states, lost, mark_at, OneDamaged, page_table, kept, Counts, TwoDamaged, ThreeDamaged, UncutKept, ExactDamaged}
use Rattle.demands.proofs.Accepted.{answer_in, judged, fine_in, PageIn, plane_behind, page_in}
use Rattle.demands.proofs.One.{place_in, samples_in, marks_in}
use Rattle.demands.proofs.Two.{joined_tables, accepted_by, refused_by}
use Rattle.demands.proofs.Stored.{slice_inside, Leads, own_quantised}
use Rattle.demands.proofs.Lost.{spared_is, spared_near}
use Rattle.demands.proofs.Exact.{distances_none}

-- ---- demand 1

few_then : (v w : Verdict) → answer v ≤ 6 → answer w ≤ 6 → answer (then v w) ≤ 6
few_then (Ok _) w p q = q
few_then (Err c) w p q = p

pub judged_few : (s : List ℕ) (room : List Check) → Low room → answer (judged true s room) ≤ 6
unfolding decoded_by
judged_few s room h =
    few_then (then (reading_of s).verdict (first room)) (verdict_in s (header_of s) true)
    (few_then (reading_of s).verdict (first room) (header_few s) (low room h)) (damaged_answer s (setting s) (begun (header_of s)))

bit_few : (b : Bool) → bit b ≤ 1
bit_few true = omega arith
bit_few false = omega arith

pub damaged_one : {s a a' m m' : List ℕ} {w w' : List ℤ} {r : Page} → ReadsDamaged s a w m r a' w' m' → OneDamaged s a w m r a' w' m'
unfolding lost_marks verdict_of lent_verdict_in
damaged_one {s} {a} {a'} {m} {m'} {w} {w'} {r} reads =
    record {
      answer = omega (arith, answer_in reads, judged_few s (room_checks_in true (header_of s) (length a) (length w) (length m)) (omega arith));
      place = place_in reads;
      samples = samples_in reads;
      marks = marks_in reads;
      work = reads.work;
      marked = λ e n l.
          let new = planes (shape s) f (shape s).nc in
          rw (written e) (rw (get_or-append new (drop (length new) m) 0 n (omega (arith, long))) (planes_each (page_in reads e).opened.shape f (λ (k : ℕ). k ≤ 1) (λ i x y p. bit_few (lost_sample s (header_of s) i x y)) n l));
      rest = λ e n l. ap (λ (q : List ℕ). get_or q n 0) (written e) ∙ plane_behind s m f n l;
    }
  where
    f : ℕ → ℕ → ℕ → ℕ
    f i x y = bit (lost_sample s (header_of s) i x y)

    long : length (planes (shape s) f (shape s).nc) ≡ N (header_of s)
    long = planes_length (shape s) f (shape s).nc

    written : r.answer ≡ 0 → m' ≡ planes (shape s) f (shape s).nc ++ drop (length (planes (shape s) f (shape s).nc)) m
    written e = reads.marks ∙ (λ i. samples_by (fine_in reads e i) (lost_marks s (header_of s)) m)

-- ---- demand 2

page_verdict : (s : List ℕ) (a w m : ℕ) → verdict_of true s a w m ≡ first (page_table s a w m)
unfolding verdict_of lent_verdict_in decoded_by page_table
page_verdict s a w m =
    joined_tables s (room_checks_in true (header_of s) a w m) (walk_table s (setting s) (header_of s).slice) (damaged_table s (setting s) (begun (header_of s)))

-- what the slices of a page that is read leave
module _ {s : List ℕ} (o : Opened s (header_of s)) (fine : verdict_in s (header_of s) true ≡ Fine) where
  pub leads : Leads s (damaged_states s) (tops_in s (header_of s) true) (decoded_by s (header_of s) true).1.2
  unfolding decoded_by before
  leads =
      let last = sym (damaged_left s (setting s) (beginning s) fine) in
      record { from = refl; stands = damaged_stands s (setting s) (beginning s) fine; largest = λ i. (last i).1.1; left = λ i. (last i).1.2 }

  pub reads_kept : (t : ℕ) → t < slices (shape s) → lost s t ≡ false → ReadsOne s (setting s) (damaged_states s) t
  unfolding decoded_by
  reads_kept t l e = kept_reads s (setting s) (settled o) (beginning s) fine t l e

  pub zeros : Each s (λ i k dx dy x y. lost_at s (lost s) i k dx dy x y ≡ true → coefficients_of s (header_of s) true i k dx dy x y ≡ pos 0)
  unfolding decoded_by
  zeros i h k dx dy x y d e =
      let p = inside d in
      lost_zero s (setting s) (settled o) (beginning s) fine _ h p.0 p.1 (row_slice (shape s) o.shape i h d)
      (omega (arith, length-replicate (2 * N (header_of s)) (pos 0))) e

  -- the samples that are read are those of the kept coefficients
  sample_kept : (i x y : ℕ) → Inside (shape s) i x y → samples_from (header_of s) (coefficients_of s (header_of s) true) i x y ≡ samples_from (header_of s) (kept s) i x y
  unfolding samples_from
  sample_kept =
      let h = header_of s in
      samples_of_same o.shape (colours o.accepted.ranges) h.picture.bw (depth_of h) (coefficients_of s h true) (kept s) (spared_is o leads (lost s) reads_kept zeros)

  -- and where no mark is, those of any that agree with them where nothing is lost
  pub shielded : (C D : Coefficients) → Each s (λ i k dx dy x y. Counts s i k dx dy x y → C i k dx dy x y ≡ D i k dx dy x y)
      → (i x y : ℕ) → Inside (shape s) i x y → lost_sample s (header_of s) i x y ≡ false → samples_from (header_of s) C i x y ≡ samples_from (header_of s) D i x y
  unfolding samples_from lost_sample
  shielded C D given i x y p e =
      let h = header_of s in
      shield o.shape (colours o.accepted.ranges) (λ i k dx dy x y. lost_at s (lost s) i k dx dy x y) C D given h.picture.bw (depth_of h) i x y p e

  -- of a coefficient that counts nothing is spared
  pub counted : (C : Coefficients) → Each s (λ i k dx dy x y. Counts s i k dx dy x y → scaled_up s (spared s (lost s) C) i k dx dy x y ≡ scaled_up s C i k dx dy x y)
  counted C i h k dx dy x y d e = rw e

pub unmarked : (b : Bool) → bit b ≡ 0 → b ≡ false
unmarked true e = absurd (omega (arith, e))
unmarked false e = refl

-- a sample that is marked 0 depends on nothing that is lost
pub mark_none : {s a' m' : List ℕ} {r : Page} → PageIn true s a' m' r → (i x y : ℕ) → Inside (shape s) i x y → mark_at s m' i x y ≡ 0 → lost_sample s (header_of s) i x y ≡ false
mark_none {s} page i x y p e = unmarked (lost_sample s (header_of s) i x y) (sym (page.mark refl i x y p) ∙ e)

pub damaged_two : {s a a' m m' : List ℕ} {w w' : List ℤ} {r : Page} → ReadsDamaged s a w m r a' w' m' → TwoDamaged s a w m r a' m'
damaged_two {s} {a} {m = m} {w = w} reads =
    let t = page_table s (length a) (length w) (length m) in
    let tv = page_verdict s (length a) (length w) (length m) in
    record {
      accepted = accepted_by reads t tv;
      refused = refused_by reads t tv;
      sample = λ e i x y p. let page = page_in reads e in page.sample i x y p ∙ sample_kept page.opened page.fine i x y p;
      mark = λ e i x y p. (page_in reads e).mark refl i x y p;
      shield = λ e C given i x y p none.
          let page = page_in reads e in
          let D = dequantised_from s (damaged_states s) in
          page.sample i x y p
          ∙ sample_kept page.opened page.fine i x y p
          ∙ shielded page.opened page.fine (kept s) C (λ i h k dx dy x y d c. counted page.opened page.fine D i h k dx dy x y d c ∙ sym (given i h k dx dy x y d c)) i x y p (mark_none page i x y p none);
    }

-- ---- demand 3

pub damaged_three : {s a a' m m' : List ℕ} {w w' : List ℤ} {r : Page} → ReadsDamaged s a w m r a' w' m' → r.answer ≡ 0 → ThreeDamaged s a' m' r
damaged_three {s} reads e =
    let page = page_in reads e in
    let o = page.opened in
    let fine = page.fine in
    record {
      near = λ C q i x y p none.
          rw (page.distances, page.sample i x y p, ← shielded o fine (scaled_up s (spared s (lost s) C)) (scaled_up s C) (counted o fine C) i x y p (mark_none page i x y p none))
          (spared_near o (leads o fine) (lost s) (reads_kept o fine) (zeros o fine) q i x y p);
      some = λ i h k dx dy x y d c. own_quantised o (leads o fine) h d (reads_kept o fine _ (slice_inside o h d) c);
    }

-- the largest T of each band is 0 where no unspoilt slice cuts a plane off
tops_none : (s : List ℕ) → verdict_in s (header_of s) true ≡ Fine → UncutKept s → (b : ℕ) → get_or (tops_in s (header_of s) true) b 0 ≡ 0
unfolding decoded_by
tops_none s fine uncut b =
    let most =
    damaged_tops_most s (setting s) b 0 (beginning s) fine (λ t l sound n k below held. omega (arith, uncut t l sound n k b below held)) (omega (arith, none_yet b)) in
    omega (arith, most)

pub damaged_record_exact : {s a' m' : List ℕ} {r : Page} → PageIn true s a' m' r → UncutKept s → (i : ℕ) → get_or r.distance i 0 ≡ 0
damaged_record_exact {s} page uncut i =
    ap (λ (l : List ℕ). get_or l i 0) page.distances ∙ distances_none page.opened (tops_in s (header_of s) true) (tops_none s page.fine uncut) i

pub damaged_exact : {s a a' m m' : List ℕ} {w w' : List ℤ} {r : Page} → ReadsDamaged s a w m r a' w' m' → r.answer ≡ 0 → UncutKept s → ExactDamaged s a' m' r
damaged_exact reads e uncut =
    let none = damaged_record_exact (page_in reads e) uncut in
    record {
      distance = none;
      sample = λ C q i x y p unlost. let near = (damaged_three reads e).near C q i x y p unlost in omega (arith, none i, near.over, near.under);
    }
