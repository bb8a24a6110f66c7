-- `distances::component_numbers` meets its contract: the loop fills the array with the numbers. Assumes nothing.
use mathlib.Core.Bool.{cond}
use lib.Dec.{ltb}
use Rattle.whole.proofs.Lists.{Filled}
use Rattle.distances.specs.Rule.{component_number_of}
use Rattle.distances.proofs.component_numbers.Given as goal

abbrev pub invariant-loop-i : goal.invariant-loop-i
invariant-loop-i l = Filled 4 l.i (λ j. cond (ltb j l.s.nc) (component_number_of l.s l.fq l.tops j) 0) l.n-items
