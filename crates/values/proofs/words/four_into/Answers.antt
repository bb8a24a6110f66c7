-- `values::words::four_into` meets its contract: the last place is inside, and so are the others. Assumes nothing.
use mathlib.Core.Path.{◌≡◌}
use Prim.Native.Nat.{◌+◌, ◌*◌}
use native.Mathlib.Omega.{arith}
use lib.ListN.{length-set}
use Rattle.whole.proofs.Machine.{back64}
use Rattle.values.specs.Line.{placed}
use Rattle.values.proofs.words.four_into.Goals as goal

pub offset_bounds-cells-first : goal.offset_bounds-cells-first
offset_bounds-cells-first c = omega (arith, c.well_formed)

pub bounds-cells-first : goal.bounds-cells-first
bounds-cells-first c = omega arith

pub overflow_add-b : goal.overflow_add-b
overflow_add-b c = omega (arith, c.well_formed)

pub offset_bounds-cells-first-2 : goal.offset_bounds-cells-first-2
offset_bounds-cells-first-2 c = omega (arith, c.well_formed)

pub bounds-cells-first-2 : goal.bounds-cells-first-2
bounds-cells-first-2 c = simp length-set (omega arith)

pub overflow_mul-c : goal.overflow_mul-c
overflow_mul-c c = omega (arith, c.well_formed)

pub overflow_add-c : goal.overflow_add-c
overflow_add-c c = omega (arith, c.well_formed)

pub offset_bounds-cells-first-3 : goal.offset_bounds-cells-first-3
offset_bounds-cells-first-3 c = omega (arith, c.well_formed)

pub bounds-cells-first-3 : goal.bounds-cells-first-3
bounds-cells-first-3 c = simp length-set (omega arith)

pub overflow_mul-d : goal.overflow_mul-d
overflow_mul-d c = omega (arith, c.well_formed)

pub overflow_add-d : goal.overflow_add-d
overflow_add-d c = omega (arith, c.well_formed)

pub offset_bounds-cells-first-4 : goal.offset_bounds-cells-first-4
offset_bounds-cells-first-4 c = omega (arith, c.well_formed)

pub bounds-cells-first-4 : goal.bounds-cells-first-4
bounds-cells-first-4 c = simp length-set (omega arith)

pub returns : goal.returns
unfolding placed
returns c =
    let a = c.args in
    let e : a.first + 0 * a.stride ≡ a.first = omega arith in
    let f : a.first + 1 * a.stride ≡ a.first + a.stride = omega arith in
    rw (back64 a.a c.ranges.a.sfits, back64 a.b c.ranges.b.sfits, back64 a.c c.ranges.c.sfits, back64 a.d c.ranges.d.sfits, e, f)
