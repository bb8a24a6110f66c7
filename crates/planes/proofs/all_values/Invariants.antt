-- `planes::all_values` meets its contract. The invariant: the first i components are transformed, and no other cell has changed. Assumes nothing.
use Rattle.planes.specs.Numbers.{filtered_of}
use Rattle.planes.proofs.Transforms.{HoldingFirst}
use Rattle.planes.proofs.all_values.Given as goal

abbrev pub invariant-loop-i : goal.invariant-loop-i
invariant-loop-i l = HoldingFirst l.s l.i (filtered_of l.kind l.s l.initial.work) l.initial.work l.work
