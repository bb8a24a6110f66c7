-- `reasons::search::lowest_band` meets its contract. Invariant: no band before has passed. Assumes nothing.
use Prim.Native.Nat.{◌%◌}
use mathlib.Core.Bool.{◌&&◌}
use lib.Dec.{eqb}
use lib.ListN.{get_or}
use Rattle.loops.proofs.Lowest.{Passed}
use Rattle.reasons.proofs.search.lowest_band.Given as goal

abbrev pub invariant-loop-b : goal.invariant-loop-b
invariant-loop-b l = Passed (λ b. eqb (b % l.nc) l.i && eqb (get_or l.tops b 0) l.top) l.b
