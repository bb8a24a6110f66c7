-- `packets::passes::all_marks` meets its contract. Assumes nothing.
use mathlib.Core.Path.{◌≡◌, refl}
use native.Mathlib.Omega.{arith}
use Rattle.layout.specs.Slots.{candidates}
use Rattle.packets.proofs.LinePasses.{marks_none, marks_more}
use Rattle.packets.proofs.passes.all_marks.Goals as goal

pub loop-j-init : goal.loop-j-init
loop-j-init c = (marks_none _ _ _ _ _, omega arith)

pub loop-j-preserved : goal.loop-j-preserved
loop-j-preserved c =
    let l = c.loop-j in
    (marks_more _ _ _ _ _ _ l.invariant.0 refl c.marks_at-sum.ensures.value, omega (arith, c.marks_at-sum.ensures.small, l.invariant.1))

pub returns : goal.returns
returns c =
    let l = c.loop-j in
    let n = c.candidate_count-n.ensures in
    let a = c.args in
    let e : l.j ≡ candidates a.c.shape a.slot = omega (arith, n.0, c.loop-j-test.false) in
    record { value = rw e at l.invariant.0; small = omega (arith, l.invariant.1, n.1) }
