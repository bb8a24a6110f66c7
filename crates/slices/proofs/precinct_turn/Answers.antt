-- `slices::precinct_turn` meets its contract. Assumes nothing.
use native.Mathlib.Omega.{arith}
use Rattle.layout.proofs.Columns.{Npy_most}
use Rattle.slices.proofs.PrecinctLaws.{own, place_is}
use Rattle.slices.proofs.SliceLaws.{row_inside, placed_in, turned_on, turned_back}
use Rattle.slices.proofs.precinct_turn.Goals as goal

pub overflow_mul-top : goal.overflow_mul-top
overflow_mul-top c =
    let a = c.args in
    let h = c.requires in
    omega (arith, (row_inside a.c.shape h.0.settled.shape a.t h.1 a.n h.2).0, Npy_most a.c.shape h.0.settled.shape)

pub precinct-requires : goal.precinct-requires
precinct-requires c =
    let a = c.args in
    let h = c.requires in
    let x = c.precinct_in-p.ensures in (
      record { settled = h.0.settled; short = h.0.short; inside = omega (arith, place_is x, h.0.inside); room = h.0.room },
      placed_in a.s.now a.c a.t a.n a.at x h.0.settled h.1 h.2,
      own x,
    )

pub raised-requires : goal.raised-requires
raised-requires c =
    let a = c.args in
    let h = c.requires in
    (h.0.settled, (placed_in a.s.now a.c a.t a.n a.at c.precinct_in-p.ensures h.0.settled h.1 h.2).row)

pub returns-in-Ok : goal.returns-in-Ok
returns-in-Ok c =
    let a = c.args in
    turned_on a.s.now a.c a.t a.n a.at a.tops a.cells.now c.precinct_in-p.ensures c.precinct.ensures c.in-Ok.is c.raised.ensures

pub returns-in-Err : goal.returns-in-Err
returns-in-Err c =
    let a = c.args in
    turned_back a.s.now a.c a.t a.n a.at a.tops a.cells.now c.precinct_in-p.ensures c.precinct.ensures c.in-Err.is c.stopped.ensures
