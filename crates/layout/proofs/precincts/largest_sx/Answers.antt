-- `layout::precincts::largest_sx` meets its contract. Assumes nothing.
use native.Mathlib.Omega.{arith}
use Rattle.layout.proofs.Columns.{largest_four, largest_one, largest_two}
use Rattle.layout.proofs.precincts.largest_sx.Goals as goal

pub returns : goal.returns
returns c = grind (arith, largest_four c.args.s c.requires, largest_one c.args.s c.requires, largest_two c.args.s c.requires)
