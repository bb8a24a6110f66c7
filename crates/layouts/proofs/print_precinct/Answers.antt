-- `layouts::print_precinct` meets its contract. Assumes what libc and os declare of the system.
use Rattle.std.proofs.Common.{arith}
use Rattle.layout.proofs.Columns.{Npy_most}
use Rattle.layouts.proofs.print_precinct.Goals as goal

pub product-first-requires : goal.product-first-requires
product-first-requires g c = omega (arith, c.requires.1, Npy_most c.args.s c.requires.0, c.precinct_columns-columns.ensures.1)
