-- `layout::lines::area_of` meets its contract. Assumes nothing.
use native.Mathlib.Omega.{arith}
use Rattle.layout.specs.Cells.{area}
use Rattle.layout.proofs.Sums.{area_most}
use Rattle.layout.proofs.lines.area_of.Goals as goal

pub returns : goal.returns
unfolding area
returns c = grind (arith, c.component_of-c.ensures, area_most c.args.s c.requires.0 c.args.i c.requires.1)
