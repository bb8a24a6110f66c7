-- The verdict of a header is that of one table. Assumes nothing.
use Rattle.std.specs.Prelude.{Ok, Err}
use Prim.Native.Nat.{ℕ, zero, suc, ◌+◌, ◌<◌}
use mathlib.Core.Bool.{Bool, true, false, cond}
use mathlib.Core.List.{List, [], ◌++◌}
use mathlib.Core.Path.{◌≡◌, refl, sym, ap, ◌∙◌}
use native.Mathlib.Nat.{suc-add}
use native.Mathlib.Omega.{arith}
use lib.ListN.{length}
use Rattle.loops.specs.Run.{go, stop, until, then as next}
use Rattle.rows.specs.Rows.{first, then, Fine, Verdict}
use Rattle.rows.specs.declared.Check.{Check}
use Rattle.rows.proofs.Tables.{first_append}
use Rattle.picture.specs.Opening.{picture_place, opening_checks}
use Rattle.picture.specs.Picture.{picture_at}
use Rattle.picture.specs.Segment.{segment_at}
use Rattle.picture.specs.declared.picture.Picture.{Picture}
use Rattle.picture.specs.declared.segment.Segment.{Segment}
use Rattle.segments.specs.Segments.{kind_of, segment_checks}
use Rattle.segments.specs.declared.kinds.Kind.{Kind}
use Rattle.segments.specs.declared.seen.Seen.{Seen}
use Rattle.header.specs.Walk.{judged, step}
use Rattle.header.specs.Turns.{turn, begun, walk}
use Rattle.header.specs.Header.{walk_by, reading_of}
use Rattle.header.specs.Table.{segments_from, header_checks}
use Rattle.header.specs.declared.walk.Walk.{Walk}
use Rattle.header.proofs.Steps.{clash, judged_verdict, left, step_falls}

-- ---- the walk

module _ (s : List ℕ) (g : Segment) (x : Seen) where
  -- a segment that is refused ends the walk
  judged_open : (v : Verdict) (k : Kind) → (judged v k s g x).done ≡ false → (judged v k s g x).verdict ≡ Fine
  judged_open (Ok _) k d = judged_verdict s g x Fine k
  judged_open (Err c) k d = clash d

then_fine : (v : Verdict) → v ≡ then v Fine
then_fine (Ok _) = refl
then_fine (Err c) = refl

module _ (s : List ℕ) (h : Picture) where
  -- the checks of the segment at hand
  abbrev here : Walk → List Check
  here w = segment_checks s h w.seen (segment_at s w.at)

  -- a walk that has not ended has refused nothing
  abbrev Open : Walk → Type 0
  Open w = w.done ≡ false → w.verdict ≡ Fine

  step_open : (w : Walk) → Open (step s h w)
  unfolding step
  step_open w = judged_open s (segment_at s w.at) w.seen (first (here w)) (kind_of (segment_at s w.at).marker)

  step_verdict : (w : Walk) → (step s h w).verdict ≡ first (here w)
  unfolding step
  step_verdict w = judged_verdict s (segment_at s w.at) w.seen (first (here w)) (kind_of (segment_at s w.at).marker)

  -- what the walk has refused, or else what it comes to
  walk_table_lem : (dead : Walk) (fuel : ℕ) (w : Walk) → left s w < fuel → Open w
      → (until (turn s h) dead fuel w).verdict ≡ then w.verdict (first (segments_from s h fuel w))
  unfolding until turn segments_from
  walk_table_lem dead zero w l o = absurd (omega arith)
  walk_table_lem dead (suc fuel) w l o = pick w.done refl (walk_table_lem dead fuel (step s h w))
    where
      pick : (b : Bool) → b ≡ w.done
          → (left s (step s h w) < fuel → Open (step s h w)
          → (until (turn s h) dead fuel (step s h w)).verdict ≡ then (step s h w).verdict (first (segments_from s h fuel (step s h w))))
          → (next (cond b (stop w) (go (step s h w))) (λ y. until (turn s h) dead fuel y) (λ r. r)).verdict
          ≡ then w.verdict (first (cond b [] (here w ++ segments_from s h fuel (step s h w))))
      pick true d later = then_fine w.verdict
      pick false d later =
          later (omega (arith, step_falls s h w (sym d))) (step_open w)
          ∙ (λ i. then (step_verdict w i) (first (segments_from s h fuel (step s h w))))
          ∙ sym (first_append (here w) (segments_from s h fuel (step s h w)))
          ∙ (λ i. then (sym (o (sym d)) i) (first (here w ++ segments_from s h fuel (step s h w))))

  -- the bound on the turns is not what ends the table: no more segments stand behind it
  pub table_whole : (more fuel : ℕ) (w : Walk) → left s w < fuel → segments_from s h (fuel + more) w ≡ segments_from s h fuel w
  unfolding segments_from
  table_whole more zero w l = absurd (omega arith)
  table_whole more (suc fuel) w l = rw suc-add (pick w.done refl (table_whole more fuel (step s h w)))
    where
      pick : (b : Bool) → b ≡ w.done
          → (left s (step s h w) < fuel → segments_from s h (fuel + more) (step s h w) ≡ segments_from s h fuel (step s h w))
          → cond b [] (here w ++ segments_from s h (fuel + more) (step s h w)) ≡ cond b [] (here w ++ segments_from s h fuel (step s h w))
      pick true d later = refl
      pick false d later = ap (λ (t : List Check). here w ++ t) (later (omega (arith, step_falls s h w (sym d))))

-- ---- the whole

pub one_table : (s : List ℕ) → (reading_of s).verdict ≡ first (header_checks s)
unfolding reading_of header_checks walk
one_table s = pick (first (opening_checks s)) ∙ sym (first_append (opening_checks s) segments)
  where
    p : ℕ
    p = picture_place s

    h : Picture
    h = picture_at s p

    segments : List Check
    segments = segments_from s h (length s + 2) (begun (p + 28))

    pick : (v : Verdict) → (walk_by v s h p).verdict ≡ then v (first segments)
    pick (Ok _) = walk_table_lem s h (begun (p + 28)) (length s + 2) (begun (p + 28)) (omega arith) (λ d. refl)
    pick (Err c) = refl
