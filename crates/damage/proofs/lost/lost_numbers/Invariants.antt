-- `lost::lost_numbers` meets its contract. The invariant: the coefficients of the components before i have become numbers. Assumes nothing.
use Rattle.damage.specs.Steps.{LostNumbersBefore}
use Rattle.damage.proofs.lost.lost_numbers.Given as goal

abbrev pub invariant-loop-i : goal.invariant-loop-i
invariant-loop-i l = LostNumbersBefore l.s l.i l.initial.cells l.cells
