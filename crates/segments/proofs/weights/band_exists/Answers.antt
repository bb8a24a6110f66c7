-- `segments::weights::band_exists`: band b is of component b mod Nc and of filter type b / Nc. Assumes nothing.
use Prim.Native.Nat.{◌/◌}
use mathlib.Core.Path.{◌∙◌}
use Rattle.layout.specs.Bands.{has_first_line}
use Rattle.layout.specs.Sizes.{SmallFilter}
use Rattle.layout.proofs.Filters.{filter_small, down_most}
use Rattle.segments.proofs.BandLaws.{band_component, band_type}
use Rattle.segments.proofs.weights.band_exists.Goals as goal

pub filter_type-f-requires : goal.filter_type-f-requires
filter_type-f-requires c =
    let x = c.requires in
    (x.0.nly.0, x.0.nlx.1, band_type x.0 c.args.b x.2)

pub sy_at-requires : goal.sy_at-requires
sy_at-requires c =
    let x = c.requires in
    (x.1, band_component x.0 c.args.b)

pub first_line_divides-requires : goal.first_line_divides-requires
first_line_divides-requires c =
    let a = c.args in
    let x = c.requires.0 in
    let is = c.filter_type-f.ensures in
    let β = a.b / a.h.nc in
    let f : SmallFilter c.filter_type-f.result = rw is (filter_small a.h.nlx a.h.nly β x.nly.0 x.nlx.1 x.nly.1) in
    (x.nly.1, rw is (down_most a.h.nlx a.h.nly β), f.ty)

pub returns : goal.returns
returns c =
    let a = c.args in
    let f = c.filter_type-f.ensures in
    c.first_line_divides.ensures ∙ (λ i. has_first_line a.h.nly (c.sy_at.ensures.value i) (f i).dy (f i).ty)
