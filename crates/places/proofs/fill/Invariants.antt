-- `places::fill` meets its contract. Invariant: t slices are filled, and the walk stands at the next. Assumes nothing.
use mathlib.Core.Path.{◌≡◌}
use Rattle.slices.specs.Walk.{slice_place}
use Rattle.places.specs.Writes.{first, slices_of, Written}
use Rattle.places.proofs.fill.Given as goal

abbrev pub invariant-loop-t : goal.invariant-loop-t
invariant-loop-t l = (l.place ≡ slice_place l.s l.c l.at l.t) × Written (first l.t (slices_of l.s l.c l.at)) l.initial.cells l.cells
