-- `segments::weights::band_count`: the product of at most four and at most ten. Assumes nothing.
use Prim.Native.Nat.{◌*◌}
use mathlib.Core.Path.{◌≡◌}
use native.Mathlib.Omega.{arith}
use Rattle.segments.specs.Bands.{bands}
use Rattle.segments.proofs.BandLaws.{bands_few}
use Rattle.segments.proofs.weights.band_count.Goals as goal

pub overflow_mul-result : goal.overflow_mul-result
overflow_mul-result c =
    let e : c.args.h.nc * c.filter_types.result ≡ bands c.args.h.nc c.args.h.nlx c.args.h.nly = λ i. c.args.h.nc * c.filter_types.ensures i in
    omega (arith, e, bands_few c.requires)

pub returns : goal.returns
returns c =
    let e : c.args.h.nc * c.filter_types.result ≡ bands c.args.h.nc c.args.h.nlx c.args.h.nly = λ i. c.args.h.nc * c.filter_types.ensures i in
    (e, omega (arith, e, bands_few c.requires))
