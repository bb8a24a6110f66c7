-- `packets::passes::packet_values` meets its contract. Assumes nothing.
use mathlib.Core.Path.{refl, ◌∙◌}
use Prim.Native.Nat.{◌<◌}
use native.Mathlib.Omega.{arith}
use Rattle.loops.proofs.Laws.{begins, goes_on, ends}
use Rattle.layout.specs.Slots.{candidates}
use Rattle.packets.specs.Passes.{packet_values}
use Rattle.packets.proofs.Lines.{lies_among}
use Rattle.packets.proofs.LinePasses.{value_turn_lem, value_few}
use Rattle.packets.proofs.passes.packet_values.Goals.{In-loop-j}
use Rattle.packets.proofs.passes.packet_values.Goals as goal

below : (c : In-loop-j) → c.loop-j.j < candidates c.args.c.shape c.args.slot
below c = omega (arith, c.loop-j-test.true, c.candidate_count-n.ensures.0)

pub loop-j-init : goal.loop-j-init
loop-j-init c = (refl, omega arith, omega arith, begins)

pub value_line-next-requires : goal.value_line-next-requires
value_line-next-requires c =
    let pre = c.requires in
    let l = c.loop-j in
    let n = c.candidate_count-n.ensures in (
      pre.0.settled,
      lies_among c.requires.0 c.candidate_count-n.ensures.0 c.loop-j-test.true c.candidate-l.ensures,
      omega (arith, pre.1, l.invariant.0),
      omega (arith, l.invariant.1, n.1),
      omega (arith, l.invariant.2, n.1),
      c.table-pairs.ensures,
    )

pub loop-j-preserved : goal.loop-j-preserved
loop-j-preserved c =
    let l = c.loop-j in
    let few = value_few _ _ _ _ _ _ _ (lies_among c.requires.0 c.candidate_count-n.ensures.0 c.loop-j-test.true c.candidate-l.ensures) c.value_line-next.ensures in (
      c.value_line-next.auto.cells ∙ l.invariant.0,
      omega (arith, l.invariant.1, few.0),
      omega (arith, l.invariant.2, few.1),
      goes_on l.invariant.3 (below (goal.at.loop-j-preserved c).In-loop-j) (value_turn_lem _ _ _ _ _ _ _ _ c.candidate-l.ensures c.value_line-next.ensures),
    )

pub returns : goal.returns
unfolding packet_values
returns c = ends c.loop-j.invariant.3 (omega (arith, c.loop-j-test.false, c.candidate_count-n.ensures.0))
