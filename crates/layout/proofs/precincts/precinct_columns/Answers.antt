-- `layout::precincts::precinct_columns` meets its contract. Assumes nothing.
use native.Mathlib.Omega.{arith}
use Rattle.layout.specs.Precincts.{Npx}
use Rattle.layout.proofs.Columns.{Npx_most}
use Rattle.whole.proofs.Ceiling.{div_ceil_is}
use Rattle.layout.proofs.precincts.precinct_columns.Goals as goal

pub returns : goal.returns
unfolding Npx
returns c = grind (arith, div_ceil_is, c.column_width.ensures, Npx_most c.args.s c.requires)
