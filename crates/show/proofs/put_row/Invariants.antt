-- `show::put_row`: cell by cell. Assumes nothing.
use Rattle.show.specs.Planes.{kind_of, cells_of}
use Rattle.show.specs.Text.{cells_text}
use Rattle.show.specs.Buffer.{Put}
use Rattle.show.proofs.put_row.Given as goal

abbrev pub invariant-loop-x : goal.invariant-loop-x
invariant-loop-x l = Put (cells_text (kind_of l.plane) (cells_of l.plane) l.next l.x) l.from l.initial.out l.at l.out
