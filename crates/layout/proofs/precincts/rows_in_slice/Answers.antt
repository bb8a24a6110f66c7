-- `layout::precincts::rows_in_slice` meets its contract. Assumes nothing.
use native.Mathlib.Omega.{arith}
use Rattle.layout.specs.Precincts.{slice_rows}
use Rattle.layout.proofs.precincts.rows_in_slice.Goals as goal

pub returns-then-n-end : goal.returns-then-n-end
unfolding slice_rows
returns-then-n-end c = grind (arith, c.requires.0.short, c.requires.0.slice)

pub returns : goal.returns
unfolding slice_rows
returns c = grind (arith, c.requires.0.short)
