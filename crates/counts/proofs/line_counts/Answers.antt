-- `counts::line_counts` meets its contract. Invariant: the groups that are left leave what the whole line leaves. Assumes nothing.
use Rattle.std.proofs.lemmas.Result.{err_from_is_err_and}
use Prim.Native.Nat.{◌≤◌, ◌<◌}
use native.Mathlib.Omega.{arith}
use lib.ListN.{length-set}
use Rattle.loops.proofs.Laws.{goes_on, stops, ends}
use Rattle.bits.specs.Groups.{Ncg}
use Rattle.counts.specs.Lines.{line_counts}
use Rattle.counts.proofs.Lines.{turn_is, turn_counts, count_sound}
use Rattle.counts.proofs.line_counts.Goals.{In_ok-count, In-loop-g}
use Rattle.counts.proofs.line_counts.Goals as goal

below : (c : In-loop-g) → c.loop-g.g < Ncg c.args.place.width
below c = omega (arith, c.loop-g-test.true, c.div_ceil-groups.ensures)

-- the count that was read
small : (c : In_ok-count) → c.in_ok-count.count.m ≤ 31
small c = (count_sound _ _ _ _ _ _ _ _ c.group_at.ensures c.in_ok-count.was).0

pub to_hold-requires : goal.to_hold-requires
to_hold-requires c = (small (goal.at.to_hold-requires c).In_ok-count, c.requires.t)

pub nibbles_of-need-requires : goal.nibbles_of-need-requires
nibbles_of-need-requires c = small (goal.at.nibbles_of-need-requires c).In_ok-count

pub returns-in_err-count : goal.returns-in_err-count
unfolding line_counts
returns-in_err-count c =
    let p = err_from_is_err_and c.from_residual.result c.from_residual.ensures.1 in
    rw (p.1, p.2) (stops c.loop-g.invariant.2 (below (goal.at.returns-in_err-count c).In-loop-g) (turn_is _ _ _ _ _ _ _ _ c.group_at.ensures _ c.in_err-count.was))

pub loop-g-preserved : goal.loop-g-preserved
loop-g-preserved c = (
  simp length-set c.loop-g.invariant.0,
  omega (arith, c.nibbles_of-need.ensures.most, c.loop-g.invariant.1),
  goes_on c.loop-g.invariant.2 (below (goal.at.loop-g-preserved c).In-loop-g)
      (turn_counts _ _ _ _ _ _ _ _ c.group_at.ensures _ c.in_ok-count.was c.to_hold.ensures c.to_hold.type_inv
      c.count_cell.ensures c.nibbles_of-need.ensures.number),
)

pub returns : goal.returns
unfolding line_counts
returns c = ends c.loop-g.invariant.2 (omega (arith, c.loop-g-test.false, c.div_ceil-groups.ensures))
