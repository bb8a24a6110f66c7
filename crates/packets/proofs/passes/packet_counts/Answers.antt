-- `packets::passes::packet_counts` meets its contract. Assumes nothing.
use mathlib.Core.Path.{refl, ◌∙◌}
use Prim.Native.Nat.{◌≤◌, ◌<◌, ◌^◌}
use native.Mathlib.Omega.{arith}
use Rattle.std.proofs.lemmas.Result.{err_from_is_err_and}
use Rattle.loops.proofs.Laws.{begins, goes_on, stops, ends}
use Rattle.layout.specs.Slots.{candidates}
use Rattle.packets.specs.Passes.{packet_counts}
use Rattle.packets.proofs.Lines.{lies_among}
use Rattle.packets.proofs.LinePasses.{count_turn_lem, count_few, marks_none, marks_more, standing_still}
use Rattle.packets.proofs.passes.packet_counts.Goals.{In-loop-j, In_ok-counted}
use Rattle.packets.proofs.passes.packet_counts.Goals as goal

below : (c : In-loop-j) → c.loop-j.j < candidates c.args.c.shape c.args.slot
below c = omega (arith, c.loop-j-test.true, c.candidate_count-n.ensures.0)

-- the line's nibbles are few
few : (c : In_ok-counted) → c.in_ok-counted.counted.need ≤ 2 ^ 36
few c =
    let l = c.loop-j in
    let a = c.args in
    count_few a.s.now a.c a.p a.cnt.now a.sig.now a.raw c.candidate-l.result l.at l.z l.cells
    (lies_among c.requires.0.within.slotted c.candidate_count-n.ensures.0 c.loop-j-test.true c.candidate-l.ensures)
    c.count_line.ensures c.in_ok-counted.was

pub loop-j-init : goal.loop-j-init
loop-j-init c = (refl, omega arith, marks_none _ _ _ _ _, omega arith, begins)

pub count_line-requires : goal.count_line-requires
count_line-requires c =
    let l = c.loop-j in
    let pre = c.requires in (
      pre.0.within.slotted.settled,
      standing_still pre.0.standing l.invariant.0,
      lies_among pre.0.within.slotted c.candidate_count-n.ensures.0 c.loop-j-test.true c.candidate-l.ensures,
      pre.1,
      omega (arith, l.invariant.3, c.candidate_count-n.ensures.1),
    )

pub returns-in_err-counted : goal.returns-in_err-counted
unfolding packet_counts
returns-in_err-counted c =
    let l = c.loop-j in
    let p = err_from_is_err_and c.from_residual.result c.from_residual.ensures.1 in
    rw (p.1, p.2)
    (stops l.invariant.4 (below (goal.at.returns-in_err-counted c).In-loop-j) (count_turn_lem _ _ _ _ _ _ _ _ _ _ _ c.candidate-l.ensures l.invariant.2 c.count_line.ensures c.in_err-counted.was))

pub overflow_add-need : goal.overflow_add-need
overflow_add-need c =
    omega (arith, c.loop-j.invariant.1, c.candidate_count-n.ensures.1, few (goal.at.overflow_add-need c).In_ok-counted)

pub marks_of-z-requires : goal.marks_of-z-requires
marks_of-z-requires c =
    let w = c.requires.0.within in
    (w.slotted.settled, omega (arith, w.at, w.end, w.short), lies_among w.slotted c.candidate_count-n.ensures.0 c.loop-j-test.true c.candidate-l.ensures)

pub loop-j-preserved : goal.loop-j-preserved
loop-j-preserved c =
    let l = c.loop-j in
    let count = c.count_line in (
      count.auto.cells ∙ l.invariant.0,
      omega (arith, l.invariant.1, few (goal.at.loop-j-preserved c).In_ok-counted),
      marks_more _ _ _ _ _ _ l.invariant.2 c.candidate-l.ensures c.marks_of-z.ensures.value,
      omega (arith, c.marks_of-z.ensures.small, l.invariant.3),
      goes_on l.invariant.4 (below (goal.at.loop-j-preserved c).In-loop-j) (count_turn_lem _ _ _ _ _ _ _ _ _ _ _ c.candidate-l.ensures l.invariant.2 count.ensures c.in_ok-counted.was),
    )

pub returns : goal.returns
unfolding packet_counts
returns c = ends c.loop-j.invariant.4 (omega (arith, c.loop-j-test.false, c.candidate_count-n.ensures.0))
