-- `output::distance_of` meets its contract. Assumes nothing.
use Rattle.output.specs.Linear.{distance}
use Rattle.output.proofs.distance_of.Goals as goal

pub returns : goal.returns
unfolding distance
returns c = rw c.scale_of-s.ensures at c.near_of.ensures
