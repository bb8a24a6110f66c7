-- `places::fill_slice` meets its contract. Invariant: n precincts are filled, and the walk stands at the next. Assumes nothing.
use mathlib.Core.Path.{◌≡◌, sym, ap, ◌∙◌}
use native.Mathlib.Omega.{arith}
use Rattle.layout.specs.Precincts.{Np}
use Rattle.layout.proofs.Columns.{slices_most}
use Rattle.packets.specs.declared.Precinct.{Precinct}
use Rattle.slices.specs.Precinct.{precinct_at}
use Rattle.slices.specs.Slice.{row_of, column_in}
use Rattle.slices.specs.Walk.{precinct_place}
use Rattle.slices.proofs.SliceLaws.{row_inside, column_inside}
use Rattle.slices.proofs.WalkPlaces.{walk_left, walk_precinct, place_first, place_inside}
use Rattle.places.specs.Writes.{precincts_of}
use Rattle.places.proofs.Laws.{none_written, all_written, next_precinct}
use Rattle.places.proofs.fill_slice.Goals.{After-precinct_in-p}
use Rattle.places.proofs.fill_slice.Goals as goal

-- the precinct of the turn
found : (c : After-precinct_in-p) →
    let a = c.args in
    let n = c.loop-n.n in
    c.precinct_in-p.result ≡ precinct_at a.s.now a.c (row_of a.s.now a.c a.t n) (column_in a.s.now a.c a.t n) (precinct_place a.s.now a.c a.at n)
found c =
    let a = c.args in
    let n = c.loop-n.n in
    c.precinct_in-p.ensures.is
    ∙ ap (precinct_at a.s.now a.c (row_of a.s.now a.c a.t n) (column_in a.s.now a.c a.t n)) c.loop-n.invariant.0

pub precincts_in_slice-n-end-requires : goal.precincts_in_slice-n-end-requires
precincts_in_slice-n-end-requires c =
    let h = c.requires in
    (h.0.settled.shape, omega (arith, h.1, slices_most c.args.c.shape h.0.settled.shape))

pub loop-n-init : goal.loop-n-init
loop-n-init c =
    let a = c.args in
    (sym (place_first a.s.now a.c a.at), none_written (precincts_of a.s.now a.c a.t a.at))

pub precinct_in-p-requires : goal.precinct_in-p-requires
precinct_in-p-requires c =
    let a = c.args in
    let h = c.requires in
    let l = c.loop-n in
    (h.0.settled, h.0.short, omega (arith, l.invariant.0, place_inside a.s.now a.c a.t a.at h.2 l.n (omega arith)), h.1, omega arith)

pub fill_precinct-requires : goal.fill_precinct-requires
fill_precinct-requires c =
    let a = c.args in
    let h = c.requires in
    let l = c.loop-n in
    let e = found (goal.at.fill_precinct-requires c).After-precinct_in-p in (
      h.0.settled,
      omega (arith, ap (λ (p : Precinct). p.row) e, (row_inside a.c.shape h.0.settled.shape a.t h.1 l.n (omega arith)).0),
      omega (arith, ap (λ (p : Precinct). p.column) e, column_inside a.c.shape h.0.settled.shape a.t h.1 l.n (omega arith)),
      omega (arith, h.0.room, l.invariant.1.same),
    )

pub loop-n-preserved : goal.loop-n-preserved
loop-n-preserved c =
    let a = c.args in
    let h = c.requires in
    let l = c.loop-n in
    let e = found (goal.at.loop-n-preserved c).After-precinct_in-p in (
      ap (λ (p : Precinct). p.end) e ∙ sym (walk_precinct a.s.now a.c a.t a.at h.2 l.n (omega arith)).next,
      next_precinct a.s.now a.c h.0.settled a.t h.1 a.at l.n (omega arith) l.invariant.1 (rw e at c.fill_precinct.ensures),
    )

pub returns : goal.returns
returns c =
    let a = c.args in
    let l = c.loop-n in
    let all : l.n ≡ Np a.c.shape a.t = omega (arith, c.loop-n-test.false, c.precincts_in_slice-n-end.ensures) in (
      l.invariant.0 ∙ ap (precinct_place a.s.now a.c a.at) all ∙ sym (walk_left a.s.now a.c a.t a.at c.requires.2),
      all_written (precincts_of a.s.now a.c a.t a.at) all l.invariant.1,
    )
