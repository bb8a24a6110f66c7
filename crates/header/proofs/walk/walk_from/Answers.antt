-- `header::walk::walk_from`: the loop is the definition's, by its measure: what is left of the stream falls with each step. Assumes nothing.
use Prim.Native.Nat.{zero-le}
use mathlib.Core.Path.{sym}
use native.Mathlib.Omega.{arith}
use borrow.Author.Tests.{not-true, not-false}
use Rattle.loops.proofs.Laws.{loop_begins, loop_goes_on, loop_stops}
use Rattle.header.specs.Turns.{walk}
use Rattle.header.proofs.Steps.{step_falls, turn_on, turn_end, step_inside}
use Rattle.header.proofs.walk.walk_from.Goals as goal

pub loop-w-init : goal.loop-w-init
loop-w-init c =
    rw c.begin-w.ensures (record { at = c.requires.2; cdt = zero-le; wgt = zero-le }, loop_begins (omega arith))

pub step-w-requires : goal.step-w-requires
step-w-requires c =
    (c.requires.0, c.requires.1, c.loop-w.invariant.0)

pub loop-w-smaller : goal.loop-w-smaller
loop-w-smaller c =
    let l = c.loop-w in
    let a = c.args in
    rw c.step-w.ensures (step_falls a.s.now a.h l.w (not-true _ c.loop-w-test.true))

pub loop-w-preserved : goal.loop-w-preserved
loop-w-preserved c =
    let l = c.loop-w in
    let a = c.args in
    let s = a.s.now in
    let d = not-true _ c.loop-w-test.true in
    rw c.step-w.ensures (step_inside s a.h l.w l.invariant.0, loop_goes_on l.invariant.1 (turn_on s a.h l.w d) (step_falls s a.h l.w d))

pub returns : goal.returns
unfolding walk
returns c =
    let l = c.loop-w in
    let a = c.args in
    record { value = sym (loop_stops l.invariant.1 (turn_end a.s.now a.h l.w (not-false _ c.loop-w-test.false))); inside = l.invariant.0 }
