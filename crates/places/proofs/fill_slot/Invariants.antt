-- `places::fill_slot` meets its contract. Invariant: j candidates are filled. Assumes nothing.
use Rattle.places.specs.Writes.{first, line_writes, Written}
use Rattle.places.proofs.fill_slot.Given as goal

abbrev pub invariant-loop-j : goal.invariant-loop-j
invariant-loop-j l = Written (first l.j (line_writes l.c l.p l.slot)) l.initial.cells l.cells
