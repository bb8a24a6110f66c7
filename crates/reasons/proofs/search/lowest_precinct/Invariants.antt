-- `reasons::search::lowest_precinct` meets its contract. Invariant: no precinct before has passed, and the walk stands before the next. Assumes nothing.
use Prim.Native.Nat.{ℕ}
use mathlib.Core.Path.{◌≡◌}
use mathlib.Core.Bool.{Bool, ◌&&◌}
use mathlib.Core.List.{List}
use lib.Dec.{eqb}
use Rattle.packets.specs.declared.Setting.{Setting}
use Rattle.reasons.specs.Coarsest.{held_by, truncation_of}
use Rattle.loops.proofs.Lowest.{Passed}
use Rattle.reasons.proofs.Steps.{stands_at}
use Rattle.reasons.proofs.search.lowest_precinct.Given as goal

-- the test of precinct p
abbrev pub test : List ℕ → Setting → ℕ → ℕ → ℕ → ℕ → Bool
test s c at b top p = held_by s c at p b && eqb (truncation_of s c at p b) top

abbrev pub invariant-loop-p : goal.invariant-loop-p
invariant-loop-p l = (l.place ≡ stands_at l.s l.c l.at l.p) × Passed (test l.s l.c l.at l.b l.top) l.p
