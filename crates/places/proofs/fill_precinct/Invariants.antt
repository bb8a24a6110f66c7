-- `places::fill_precinct` meets its contract. Invariant: so many slots are filled. Assumes nothing.
use Rattle.places.specs.Writes.{first, slot_writes, Written}
use Rattle.places.proofs.fill_precinct.Given as goal

abbrev pub invariant-loop-slot : goal.invariant-loop-slot
invariant-loop-slot l = Written (first l.slot (slot_writes l.c l.p)) l.initial.cells l.cells
