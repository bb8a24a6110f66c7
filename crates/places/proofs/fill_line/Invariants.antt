-- `places::fill_line` meets its contract. Invariant: x cells of the line are filled. Assumes nothing.
use Rattle.whole.specs.Cells.{OntoLine}
use Rattle.places.proofs.fill_line.Given as goal

abbrev pub invariant-loop-x : goal.invariant-loop-x
invariant-loop-x l = OntoLine l.l.cell l.l.stride l.x (λ _. l.number) l.initial.cells l.cells
