-- `slices::precincts::precinct_in` meets its contract. Assumes nothing.
use Prim.Native.Nat.{◌/◌, ◌≤◌}
use mathlib.Core.Path.{◌≡◌}
use native.Mathlib.Omega.{arith}
use Rattle.layout.specs.Precincts.{Npx}
use Rattle.layout.proofs.Columns.{Npx_some, Npy_most}
use Rattle.slices.proofs.SliceLaws.{row_inside, seen}
use Rattle.slices.proofs.precincts.precinct_in.Goals.{After-precinct_columns-columns}
use Rattle.slices.proofs.precincts.precinct_in.Goals as goal

some : (c : After-precinct_columns-columns) → 1 ≤ c.precinct_columns-columns.result
some c =
    omega (arith, c.precinct_columns-columns.ensures.0, Npx_some c.args.c.shape c.requires.0.shape)

pub nonzero_div-down : goal.nonzero_div-down
nonzero_div-down c = omega (arith, some c)

pub overflow_mul-row : goal.overflow_mul-row
overflow_mul-row c =
    let a = c.args in
    let h = c.requires in
    omega (arith, (row_inside a.c.shape h.0.shape a.t h.3 a.n h.4).0, Npy_most a.c.shape h.0.shape)

pub overflow_add-row : goal.overflow_add-row
overflow_add-row c =
    let a = c.args in
    let h = c.requires in
    let q : a.n / c.precinct_columns-columns.result ≡ a.n / Npx a.c.shape = λ i. a.n / c.precinct_columns-columns.ensures.0 i in
    omega (arith, q, (row_inside a.c.shape h.0.shape a.t h.3 a.n h.4).0, Npy_most a.c.shape h.0.shape)

pub nonzero_rem-n : goal.nonzero_rem-n
nonzero_rem-n c = omega (arith, some (goal.at.nonzero_rem-n c).After-precinct_columns-columns)

pub returns : goal.returns
returns c =
    let a = c.args in
    seen a.s.now a.c a.t a.n a.at c.precinct_columns-columns.ensures.0 c.precinct_at.ensures
