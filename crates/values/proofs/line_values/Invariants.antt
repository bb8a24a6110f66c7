-- `values::line_values` meets its contract. Invariant: the groups before g are in their cells. Assumes nothing.
use Rattle.values.proofs.Lines.{Reached}
use Rattle.values.proofs.line_values.Given as goal

abbrev pub invariant-loop-g : goal.invariant-loop-g
invariant-loop-g l =
    Reached l.dat l.sgn l.how l.line l.initial.next l.g l.initial.cells l.next l.cells
