-- `reasons::search::largest_of` meets its contract. Invariant: the largest of the bands before. Assumes nothing.
use Prim.Native.Nat.{ℕ, ◌%◌}
use mathlib.Core.Path.{◌≡◌}
use mathlib.Core.Bool.{cond}
use mathlib.Core.List.{List}
use lib.Dec.{eqb}
use lib.ListN.{get_or}
use Rattle.layout.specs.Precincts.{largest}
use Rattle.reasons.proofs.search.largest_of.Given as goal

abbrev pub own : ℕ → ℕ → List ℕ → ℕ → ℕ
own nc i tops b = cond (eqb (b % nc) i) (get_or tops b 0) 0

abbrev pub invariant-loop-b : goal.invariant-loop-b
invariant-loop-b l = l.top ≡ largest (own l.nc l.i l.tops) l.b
