-- `layout::lines::samples_before` meets its contract: after k turns n counts the samples of the components below k. Assumes nothing.
use mathlib.Core.Path.{refl}
use native.Mathlib.Omega.{arith}
use Rattle.layout.specs.Cells.{samples}
use Rattle.layout.proofs.Sums.{samples_next, samples_most}
use Rattle.layout.proofs.lines.samples_before.Goals as goal

pub loop-k-init : goal.loop-k-init
unfolding samples
loop-k-init c = refl

pub overflow_add-n : goal.overflow_add-n
overflow_add-n c = omega (arith, c.area_of-n.ensures.1, samples_most c.args.s c.requires.0 c.loop-k.k (omega arith), c.requires.0.few)

pub loop-k-preserved : goal.loop-k-preserved
loop-k-preserved c = grind (arith, samples_next c.args.s c.requires.0 c.loop-k.k)

pub returns : goal.returns
returns c = grind (arith, samples_most c.args.s c.requires.0 c.args.i c.requires.1, c.requires.0.few)
