-- `layout::lines::samples_before` meets its contract: after k turns n counts the samples of the components below k. Assumes nothing.
use mathlib.Core.Path.{◌≡◌}
use Rattle.layout.specs.Cells.{samples}
use Rattle.layout.proofs.lines.samples_before.Given as goal

abbrev pub invariant-loop-k : goal.invariant-loop-k
invariant-loop-k l = l.n ≡ samples l.s l.k
