-- `planes::component_values` meets its contract. Assumes nothing.
use native.Mathlib.Omega.{arith}
use Rattle.planes.proofs.Stretches.{stretch_fits}
use Rattle.planes.proofs.Transforms.{part_taken, part_within, part_given}
use Rattle.planes.proofs.component_values.Goals as goal

pub slice_bounds-inverse-end : goal.slice_bounds-inverse-end
slice_bounds-inverse-end c =
    omega (arith, c.area_of.ensures, c.samples_before-at.ensures, stretch_fits c.requires.0)

pub inverse-requires : goal.inverse-requires
inverse-requires c = record {
  component = part_taken c.requires.0 c.samples_before-at.ensures.0 c.area_of.ensures.0 c.component_of-c.ensures.is;
  values_within = part_within c.requires.0 c.samples_before-at.ensures.0 c.area_of.ensures.0 c.component_of-c.ensures.is c.args.kind c.requires.1;
}

pub returns : goal.returns
returns c =
    part_given c.requires.0 c.samples_before-at.ensures.0 c.area_of.ensures.0
    c.component_of-c.ensures.is c.args.kind _ c.inverse.ensures
