-- `layout::precincts::precinct_rows` meets its contract. Assumes nothing.
use native.Mathlib.Omega.{arith}
use Rattle.layout.specs.Precincts.{Npy}
use Rattle.layout.proofs.Columns.{Npy_most}
use Rattle.layout.proofs.precincts.precinct_rows.Goals as goal

pub returns : goal.returns
unfolding Npy
returns c = grind (arith, Npy_most c.args.s c.requires)
