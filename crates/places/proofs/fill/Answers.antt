-- `places::fill` meets its contract. Invariant: t slices are filled, and the walk stands at the next. Assumes nothing.
use Prim.Native.Nat.{ℕ, ◌+◌}
use mathlib.Core.Path.{◌≡◌, sym, ap, ◌∙◌}
use native.Mathlib.Omega.{arith}
use Rattle.rows.specs.Rows.{Fine, Verdict}
use Rattle.slices.specs.Walk.{walk_slice, slice_place}
use Rattle.slices.proofs.WalkPlaces.{slice_first, walk_header, walk_slice_lem}
use Rattle.places.specs.Writes.{slices_of}
use Rattle.places.proofs.Laws.{none_written, all_written, next_slice, filled}
use Rattle.places.proofs.fill.Goals.{In-loop-t}
use Rattle.places.proofs.fill.Goals as goal

-- the walk of the turn's slice
walked : (c : In-loop-t) →
    let a = c.args in
    let t = c.loop-t.t in
    walk_slice a.s.now a.c t (slice_place a.s.now a.c a.at t) ≡ (Fine, slice_place a.s.now a.c a.at (t + 1))
walked c =
    walk_slice_lem c.args.s.now c.args.c c.args.at c.requires.1 c.loop-t.t (omega arith)

pub loop-t-init : goal.loop-t-init
loop-t-init c = let a = c.args in
    (sym (slice_first a.s.now a.c a.at), none_written (slices_of a.s.now a.c a.at))

pub fill_slice-place-requires : goal.fill_slice-place-requires
fill_slice-place-requires c =
    let a = c.args in
    let h = c.requires.0 in
    let l = c.loop-t in
    let fine = ap (λ (r : Verdict × ℕ). r.0) (walked (goal.at.fill_slice-place-requires c).In-loop-t) in
    let inside = walk_header a.s.now a.c l.t (slice_place a.s.now a.c a.at l.t) fine in
    (record { settled = h.settled; short = h.short; inside = omega (arith, l.invariant.0, inside); room = omega (arith, h.room, l.invariant.1.same) }, omega arith, rw l.invariant.0 fine)

pub loop-t-preserved : goal.loop-t-preserved
loop-t-preserved c =
    let a = c.args in
    let l = c.loop-t in
    let left = rw l.invariant.0 at c.fill_slice-place.ensures in (
      left.0 ∙ ap (λ (r : Verdict × ℕ). r.1) (walked (goal.at.loop-t-preserved c).In-loop-t),
      next_slice a.s.now a.c c.requires.0.settled a.at l.t (omega arith) l.invariant.1 left.1,
    )

pub returns : goal.returns
returns c =
    let a = c.args in
    let l = c.loop-t in
    filled a.s.now a.c c.requires.0.settled a.at
    (all_written (slices_of a.s.now a.c a.at) (omega (arith, c.loop-t-test.false, c.slice_count-t-end.ensures.0)) l.invariant.1)
