-- `distances::distances` meets its contract: the loop fills the array with the distances. Assumes nothing.
use mathlib.Core.Bool.{cond}
use lib.Dec.{ltb}
use lib.ListN.{get_or}
use Rattle.whole.proofs.Lists.{Filled}
use Rattle.output.specs.Linear.{distance}
use Rattle.distances.proofs.distances.Given as goal

abbrev pub invariant-loop-i : goal.invariant-loop-i
invariant-loop-i l = Filled 4 l.i (λ j. cond (ltb j l.s.nc) (distance l.bw (get_or l.depth j 0) (get_or l.e j 0)) 0) l.d-items
