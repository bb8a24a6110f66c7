-- `planes::component_marks` meets its contract. Assumes nothing.
use native.Mathlib.Omega.{arith}
use Rattle.layout.proofs.Cells.{starts_up}
use Rattle.planes.specs.Marks.{cell_mark}
use Rattle.planes.proofs.Stretches.{stretch_fits}
use Rattle.planes.proofs.Planes.{plane_given}
use Rattle.planes.proofs.component_marks.Goals as goal

pub slice_bounds-cell_marks-end : goal.slice_bounds-cell_marks-end
slice_bounds-cell_marks-end c =
    omega (arith, c.area_of-n.ensures, c.samples_before-at.ensures, stretch_fits c.requires.0)

pub slice_bounds-cell_marks-end-2 : goal.slice_bounds-cell_marks-end-2
slice_bounds-cell_marks-end-2 c =
    omega (
      arith,
      c.area_of-n.ensures,
      c.samples_before-at.ensures,
      c.requires.1,
      starts_up c.args.s c.args.i c.args.s.nc c.requires.0.there,
    )

pub returns : goal.returns
returns c =
    plane_given c.requires.0 c.args.out.now c.requires.1 c.samples_before-at.ensures.0 c.area_of-n.ensures.0
    cell_mark c.cell_marks.ensures
