-- `values::group_values` meets its contract: with no plane above T the group takes nothing, and its coefficients are 0. Assumes nothing.
use Rattle.values.proofs.Groups.{group_none}
use Rattle.values.proofs.group_values.Goals as goal

pub returns-then-group : goal.returns-then-group
returns-then-group c = group_none _ _ _ _ _ _ c.if-group.true c.clear_group.ensures
