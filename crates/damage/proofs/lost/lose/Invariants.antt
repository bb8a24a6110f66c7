-- `lost::lose` meets its contract. The invariant: the components before i have lost the slice. Assumes nothing.
use mathlib.Core.Path.{◌≡◌}
use Rattle.damage.specs.Lost.{lose_before}
use Rattle.damage.proofs.lost.lose.Given as goal

abbrev pub invariant-loop-i : goal.invariant-loop-i
invariant-loop-i l = l.cells ≡ lose_before l.s l.t l.i l.initial.cells
