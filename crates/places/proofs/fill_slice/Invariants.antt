-- `places::fill_slice` meets its contract. Invariant: n precincts are filled, and the walk stands at the next. Assumes nothing.
use mathlib.Core.Path.{◌≡◌}
use Rattle.slices.specs.Walk.{precinct_place}
use Rattle.places.specs.Writes.{first, precincts_of, Written}
use Rattle.places.proofs.fill_slice.Given as goal

abbrev pub invariant-loop-n : goal.invariant-loop-n
invariant-loop-n l =
    (l.place ≡ precinct_place l.s l.c l.at l.n) × Written (first l.n (precincts_of l.s l.c l.t l.at)) l.initial.cells l.cells
