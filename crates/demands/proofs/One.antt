-- Demand 1 holds of every reading: the answer is a number of document 01 with a place in the stream, and a refused page leaves the samples. Assumes nothing.
use Rattle.std.specs.Prelude.{Ok, Err}
use mathlib.Core.Path.{◌≡◌, refl, sym, ◌∙◌, subst}
use mathlib.Core.Bool.{Bool, true, false}
use mathlib.Core.List.{List}
use Prim.Native.Nat.{ℕ, ◌≤◌}
use native.Mathlib.Omega.{arith}
use lib.IntN.{ℤ}
use lib.ListN.{length}
use Rattle.rows.specs.Rows.{answer, first, then, Fine, Verdict}
use Rattle.rows.specs.declared.Check.{Check}
use Rattle.rows.proofs.Tables.{then_fine, answer_most}
use Rattle.rows.proofs.Sites.{Inside, sited, inside_then, Standing, standing}
use Rattle.pieces.specs.declared.Bytes.{Bytes}
use Rattle.header.specs.Header.{reading_of}
use Rattle.header.specs.declared.header.Header.{Header}
use Rattle.header.proofs.Sites.{header_inside}
use Rattle.slices.specs.Stream.{stream}
use Rattle.slices.proofs.Sites.{stream_inside}
use Rattle.damage.specs.Stream.{stream_by}
use Rattle.damage.proofs.Walked.{damaged_inside}
use Rattle.reader.specs.Page.{header_of, verdict, page_by, samples_by, Reads}
use Rattle.reader.specs.Decoding.{begun}
use Rattle.reader.specs.Modes.{decoded_by, verdict_in, room_checks_in, lent_verdict_in, verdict_of, LeavesIn, ReadsIn}
use Rattle.reader.specs.declared.page.Page.{Page}
use Rattle.reader.proofs.Openings.{opened}
use Rattle.demands.specs.Stored.{setting}
use Rattle.demands.specs.Demands.{One}
use Rattle.demands.proofs.Accepted.{answer_in, judged, judged_header, plain_in, answer_of}

-- behind an accepted header every place is in the stream
module _ (damaged : Bool) (s : List ℕ) where
  slices_inside : (header_of s).slice ≤ length s → Inside (length s) (verdict_in s (header_of s) damaged)
  unfolding decoded_by stream_by stream
  slices_inside at = by damaged
    where
      by : (damaged : Bool) → Inside (length s) (verdict_in s (header_of s) damaged)
      by false = stream_inside s (setting s) (begun (header_of s)) at
      by true = damaged_inside s (setting s) (begun (header_of s)) at

  -- where row 5 gives the slice header's
  module _ (room : List Check) (stands : (n : ℕ) → (header_of s).slice ≤ n → Standing n room) where
    pub judged_inside : Inside (length s) (judged damaged s room)
    judged_inside =
        inside_then (length s) (then (reading_of s).verdict (first room)) (verdict_in s (header_of s) damaged)
        (inside_then (length s) (reading_of s).verdict (first room) (header_inside s) (λ e. sited (length s) room (standing (length s) room (stands (length s) (at e)))))
        (λ e. slices_inside (at (then_fine (reading_of s).verdict (first room) e).0))
      where
        at : (reading_of s).verdict ≡ Fine → (header_of s).slice ≤ length s
        at e = omega (arith, (opened s e).accepted.slice)

-- the record's place: Lcod, which is the stream's length, or the broken check's
page_place : (s : List ℕ) (v : Verdict) (h : Header) (d : List ℕ) (b : Bytes) → Inside (length s) v → (v ≡ Fine → h.picture.lcod ≡ length s) → (page_by v h d b).place ≤ length s
page_place s (Ok _) h d b i e = omega (arith, e refl)
page_place s (Err c) h d b i e = i

pub left : (v : Verdict) (new a : List ℕ) → (answer v ≡ 0 → ⊥) → samples_by v new a ≡ a
left (Ok _) new a some = absurd (some refl)
left (Err c) new a some = refl

-- what both modes have in common, by any verdicts
module _ {damaged : Bool} {s : List ℕ} {lent all : Verdict} {a : List ℕ} {w : List ℤ} {m : List ℕ} {r : Page} {a' : List ℕ} {w' : List ℤ} {m' : List ℕ}
    (leaves : LeavesIn damaged s (header_of s) lent all a w m r a' w' m') where
  pub place_by : (room : List Check) → ((n : ℕ) → (header_of s).slice ≤ n → Standing n room) → all ≡ judged damaged s room → r.place ≤ length s
  place_by room stands e =
      subst (λ (p : Page). p.place ≤ length s) (sym leaves.page)
      (page_place s all (header_of s) _ _ (rw e (judged_inside damaged s room stands)) (λ f. (opened s (judged_header damaged s room (sym e ∙ f))).accepted.whole))

  pub samples_in : (r.answer ≡ 0 → ⊥) → a' ≡ a
  samples_in some = leaves.samples ∙ left all _ a (λ e. some (answer_in leaves ∙ e))

  pub marks_in : (r.answer ≡ 0 → ⊥) → m' ≡ m
  marks_in some = leaves.marks ∙ left all _ m (λ e. some (answer_in leaves ∙ e))

-- and by those of the mode
pub place_in : {damaged : Bool} {s a m a' m' : List ℕ} {w w' : List ℤ} {r : Page} → ReadsIn damaged s a w m r a' w' m' → r.place ≤ length s
unfolding verdict_of lent_verdict_in
place_in {damaged} {s} {a} {m} {w = w} reads = place_by reads (room_checks_in damaged (header_of s) (length a) (length w) (length m)) (λ n l. by n l damaged) refl
  where
    by : (n : ℕ) → (header_of s).slice ≤ n → (damaged : Bool) → Standing n (room_checks_in damaged (header_of s) (length a) (length w) (length m))
    by n l false = omega arith
    by n l true = omega arith

-- so a stream of any bytes gets one of nine answers, and a refusal leaves no trace in the samples
pub demand_one : {s a a' : List ℕ} {w w' : List ℤ} {r : Page} → Reads s a w r a' w' → One s a w r a' w'
demand_one {s} {a} {w = w} reads =
    record {
      answer = omega (arith, answer_of reads, answer_most (verdict s (length a) (length w)));
      place = place_in (plain_in reads);
      samples = samples_in (plain_in reads);
      work = reads.work;
    }
