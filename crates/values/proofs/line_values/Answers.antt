-- `values::line_values` meets its contract. Invariant: the groups before g are in their cells. Assumes nothing.
use Prim.Native.Nat.{◌*◌, ◌<◌}
use native.Mathlib.Omega.{arith}
use Rattle.values.proofs.Lines.{reached_first, reached_next, reached_last, fits_group}
use Rattle.values.proofs.line_values.Goals.{In-loop-g}
use Rattle.values.proofs.line_values.Goals as goal

some : (c : In-loop-g) → 4 * c.loop-g.g < c.args.line.width
some c = omega (arith, c.loop-g-test.true)

pub loop-g-init : goal.loop-g-init
loop-g-init c = reached_first _ _ _ _ _ _

pub any_group-next-requires : goal.any_group-next-requires
any_group-next-requires c =
    (c.requires.0, rw c.group_of-group.ensures (fits_group _ _ _ _ _ _ _ (some (goal.at.any_group-next-requires c).In-loop-g) c.requires.1 c.loop-g.invariant))

pub loop-g-preserved : goal.loop-g-preserved
loop-g-preserved c =
    reached_next _ _ _ _ _ _ _ (some (goal.at.loop-g-preserved c).In-loop-g) c.requires.1 c.loop-g.invariant (rw c.group_of-group.ensures at c.any_group-next.ensures)

pub returns : goal.returns
returns c = reached_last _ _ _ _ _ _ (omega (arith, c.loop-g-test.false)) c.loop-g.invariant
