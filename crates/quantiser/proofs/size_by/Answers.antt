-- `quantiser::size_by` meets its contract. Assumes nothing.
use Rattle.quantiser.specs.Inverse.{inverse}
use Rattle.quantiser.proofs.size_by.Goals as goal

pub returns-then-uniform : goal.returns-then-uniform
unfolding inverse
returns-then-uniform c = rw c.if-uniform.true c.uniform_size.ensures

pub returns-else-uniform : goal.returns-else-uniform
unfolding inverse
returns-else-uniform c = rw c.if-uniform.false c.deadzone_size.ensures
