-- `distances::component_numbers` meets its contract: the loop fills the array with the numbers. Assumes nothing.
use mathlib.Core.Path.{refl}
use Rattle.whole.proofs.Lists.{filled_none, filled_more}
use Rattle.distances.proofs.component_numbers.Goals as goal

pub loop-i-init : goal.loop-i-init
loop-i-init c = filled_none refl

pub loop-i-preserved : goal.loop-i-preserved
loop-i-preserved c = filled_more c.loop-i.invariant c.loop-i-test.true c.component_number.ensures
