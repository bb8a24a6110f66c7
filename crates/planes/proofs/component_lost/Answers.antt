-- `planes::component_lost` meets its contract. Assumes nothing.
use Prim.Native.Nat.{◌+◌, ◌≤◌}
use native.Mathlib.Omega.{arith}
use Rattle.layout.specs.Cells.{samples}
use Rattle.layout.proofs.Cells.{starts_up}
use Rattle.planes.proofs.LostPlanes.{lost_given}
use Rattle.planes.proofs.component_lost.Goals.{After-area_of}
use Rattle.planes.proofs.component_lost.Goals as goal

-- the part ends inside both lists
ends : (c : After-area_of) → c.samples_before-at.result + c.area_of.result ≤ samples c.args.s c.args.s.nc
ends c =
    omega (arith, c.area_of.ensures, c.samples_before-at.ensures, starts_up c.args.s c.args.i c.args.s.nc c.requires.1)

pub slice_bounds-lost_output-end : goal.slice_bounds-lost_output-end
slice_bounds-lost_output-end c = omega (arith, ends (goal.at.slice_bounds-lost_output-end c).After-area_of, c.requires.3)

pub slice_bounds-lost_output-end-2 : goal.slice_bounds-lost_output-end-2
slice_bounds-lost_output-end-2 c = omega (arith, ends (goal.at.slice_bounds-lost_output-end-2 c).After-area_of, c.requires.4)

pub returns : goal.returns
returns c =
    lost_given c.args.s c.requires.1 c.args.marks.now c.args.out.now c.requires.3 c.requires.4 c.args.b c.samples_before-at.ensures.0 c.area_of.ensures.0
    c.lost_output.ensures
