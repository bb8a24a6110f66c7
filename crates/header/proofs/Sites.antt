-- Where the header's refusals stand: no place is past the stream. Assumes nothing.
use Rattle.std.specs.Prelude.{Ok, Err}
use Prim.Native.Nat.{ℕ, ◌+◌, ◌≤◌, zero-le}
use mathlib.Core.List.{List}
use mathlib.Core.Path.{◌≡◌, refl, sym, subst}
use lib.ListN.{length}
use Rattle.rows.specs.Rows.{first, Fine, Verdict}
use Rattle.rows.proofs.Sites.{Inside, sited}
use Rattle.picture.specs.Opening.{picture_place, opening_checks}
use Rattle.picture.specs.Picture.{picture_at}
use Rattle.picture.specs.Segment.{segment_at}
use Rattle.picture.specs.declared.picture.Picture.{Picture}
use Rattle.picture.proofs.Laws.{opened}
use Rattle.picture.proofs.Sites.{opening_sited}
use Rattle.segments.specs.Segments.{kind_of, segment_checks}
use Rattle.segments.proofs.Sites.{segment_sited}
use Rattle.header.specs.Header.{walk_by, reading_of}
use Rattle.header.specs.Walk.{step}
use Rattle.header.specs.Turns.{walk, Inside as InStream}
use Rattle.header.specs.declared.walk.Walk.{Walk}
use Rattle.header.proofs.Sound.{walk_keeps, unseen_inside}
use Rattle.header.proofs.Steps.{judged_verdict, step_inside}

-- ---- a step

-- the places of a walk are inside the stream, and so is its verdict's
abbrev WalkInside : List ℕ → Walk → Type 0
WalkInside s w = InStream s w × Inside (length s) w.verdict

step_sited : (s : List ℕ) (h : Picture) (w : Walk) → WalkInside s w → WalkInside s (step s h w)
unfolding step
step_sited s h w i =
    let g = segment_at s w.at in
    let t = segment_checks s h w.seen g in
    let same = judged_verdict s g w.seen (first t) (kind_of g.marker) in
    let inside = sited (length s) t (segment_sited s h w.seen w.at i.0.at) in
    (step_inside s h w i.0, subst (Inside (length s)) (sym same) inside)

-- ---- the whole walk

walk_sited : (s : List ℕ) (h : Picture) (p : ℕ) → p ≤ length s → Inside (length s) (walk s h p).verdict
walk_sited s h p l =
    (walk_keeps s h (WalkInside s) (step_sited s h) (unseen_inside s h zero-le, zero-le) p (unseen_inside s h l, tt)).0.1

-- ---- the header

-- the place of every refusal of a header is at most the stream's length
pub header_inside : (s : List ℕ) → Inside (length s) (reading_of s).verdict
unfolding reading_of
header_inside s = pick (first (opening_checks s)) (sited (length s) (opening_checks s) (opening_sited s)) (λ e. (opened s e).behind)
  where
    pick : (v : Verdict) → Inside (length s) v → (v ≡ Fine → picture_place s + 28 ≤ length s)
        → Inside (length s) (walk_by v s (picture_at s (picture_place s)) (picture_place s)).verdict
    pick (Ok _) i l = walk_sited s (picture_at s (picture_place s)) (picture_place s + 28) (l refl)
    pick (Err c) i l = i
