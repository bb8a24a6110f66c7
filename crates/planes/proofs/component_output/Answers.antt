-- `planes::component_output` meets its contract. Assumes nothing.
use native.Mathlib.Omega.{arith}
use Rattle.output.specs.Linear.{output_of}
use Rattle.layout.proofs.Cells.{starts_up}
use Rattle.planes.proofs.Stretches.{stretch_fits}
use Rattle.planes.proofs.Planes.{samples_taken, numbers_taken, plane_given}
use Rattle.planes.proofs.component_output.Goals as goal

pub slice_bounds-linear_output-end : goal.slice_bounds-linear_output-end
slice_bounds-linear_output-end c =
    omega (arith, c.area_of-n.ensures, c.samples_before-at.ensures, stretch_fits c.requires.0)

pub slice_bounds-linear_output-end-2 : goal.slice_bounds-linear_output-end-2
slice_bounds-linear_output-end-2 c =
    omega (
      arith,
      c.area_of-n.ensures,
      c.samples_before-at.ensures,
      c.requires.3,
      starts_up c.args.s c.args.i c.args.s.nc c.requires.0.there,
    )

pub linear_output-requires : goal.linear_output-requires
linear_output-requires c = (
  samples_taken c.requires.0 c.args.out.now c.requires.3 c.samples_before-at.ensures.0 c.area_of-n.ensures.0 c.requires.2,
  λ numbers. numbers_taken c.requires.0 c.args.out.now c.requires.3 c.samples_before-at.ensures.0 c.area_of-n.ensures.0 (c.requires.1 numbers),
)

pub returns : goal.returns
returns c =
    plane_given c.requires.0 c.args.out.now c.requires.3 c.samples_before-at.ensures.0 c.area_of-n.ensures.0
    (output_of c.args.kind c.args.bw c.args.b) c.linear_output.ensures
