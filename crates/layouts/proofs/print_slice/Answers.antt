-- `layouts::print_slice` meets its contract. Assumes what libc and os declare of the system.
use Rattle.std.proofs.Common.{arith}
use Rattle.wavelet.proofs.Halves.{below_size}
use Rattle.layout.specs.Precincts.{Npy, slices}
use Rattle.layout.proofs.Columns.{Npy_most, slices_most}
use Rattle.layouts.proofs.print_slice.Goals as goal

pub precincts_in_slice-count-requires : goal.precincts_in_slice-count-requires
precincts_in_slice-count-requires g c = (c.requires.0, omega (arith, c.requires.1, slices_most c.args.s c.requires.0))

pub product-top-requires : goal.product-top-requires
product-top-requires g c = omega (arith, c.requires.1, slices_most c.args.s c.requires.0, c.requires.0.short)

pub product-first-requires : goal.product-first-requires
unfolding slices
product-first-requires g c =
    omega (
      arith,
      c.product-top.ensures.0,
      below_size c.requires.0.slice (Npy c.args.s) c.args.t c.requires.1,
      Npy_most c.args.s c.requires.0,
      c.precinct_columns-columns.ensures.1,
    )
