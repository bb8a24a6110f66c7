-- `layout::precincts::column_width` meets its contract. Assumes nothing.
use native.Mathlib.Omega.{arith}
use Rattle.layout.proofs.Columns.{Cs_columns, Cs_whole, Cs_range}
use Rattle.layout.proofs.precincts.column_width.Goals as goal

pub returns-then-cw-gt0 : goal.returns-then-cw-gt0
returns-then-cw-gt0 c = grind (arith, c.largest_sx-most.ensures, c.power.ensures, Cs_columns c.args.s c.requires c.if-cw-gt0.true, Cs_range c.args.s c.requires)

pub returns : goal.returns
returns c = grind (arith, Cs_whole c.args.s c.requires c.if-cw-gt0.false, Cs_range c.args.s c.requires)
