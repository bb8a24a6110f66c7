-- `show::put_rows`: row by row. Assumes nothing.
use Rattle.show.specs.Planes.{kind_of, cells_of}
use Rattle.show.specs.Text.{rows}
use Rattle.show.specs.Buffer.{Shown}
use Rattle.show.proofs.put_rows.Given as goal

abbrev pub invariant-loop-y : goal.invariant-loop-y
invariant-loop-y l =
    Shown (rows (kind_of l.plane) (cells_of l.plane) l.width l.initial.done.next l.y) l.initial.done.at l.initial.out l.done l.out
