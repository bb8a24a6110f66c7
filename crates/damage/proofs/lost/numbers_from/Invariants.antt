-- `lost::numbers_from` meets its contract. The invariant: the first k coefficients have become numbers. Assumes nothing.
use Rattle.damage.specs.Steps.{NumberedBy}
use Rattle.damage.proofs.lost.numbers_from.Given as goal

abbrev pub invariant-loop-k : goal.invariant-loop-k
invariant-loop-k l = NumberedBy l.from l.size l.k l.initial.cells l.cells
