-- `layout::headers::bit_of_mode` meets its contract. Assumes nothing.
use native.Mathlib.Omega.{arith}
use Rattle.layout.proofs.Sums.{modes_counted, modes_most, bands_most}
use Rattle.layout.proofs.headers.bit_of_mode.Goals as goal

pub overflow_mul-result : goal.overflow_mul-result
overflow_mul-result c = grind (arith, modes_counted c.args.s c.args.b, modes_most c.args.s c.args.b, bands_most c.args.s c.requires.0)

pub overflow_add-result : goal.overflow_add-result
overflow_add-result c = grind (arith, modes_counted c.args.s c.args.b, modes_most c.args.s c.args.b, bands_most c.args.s c.requires.0)

pub returns : goal.returns
returns c = grind (arith, modes_counted c.args.s c.args.b, modes_most c.args.s c.args.b)
