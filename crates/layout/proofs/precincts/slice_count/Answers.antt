-- `layout::precincts::slice_count` meets its contract. Assumes nothing.
use native.Mathlib.Omega.{arith}
use Rattle.layout.specs.Precincts.{slices}
use Rattle.layout.proofs.Columns.{slices_most}
use Rattle.whole.proofs.Ceiling.{div_ceil_is}
use Rattle.layout.proofs.precincts.slice_count.Goals as goal

pub returns : goal.returns
unfolding slices
returns c = grind (arith, div_ceil_is, c.requires.slice, slices_most c.args.s c.requires)
