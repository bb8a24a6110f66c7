-- `show::put_components`: one by one. Assumes nothing.
use Rattle.show.specs.Planes.{kind_of, cells_of}
use Rattle.show.specs.Text.{components}
use Rattle.show.specs.Buffer.{Shown}
use Rattle.show.proofs.put_components.Given as goal

abbrev pub invariant-loop-i : goal.invariant-loop-i
invariant-loop-i l = Shown (components l.page (kind_of l.plane) (cells_of l.plane) l.i) l.from l.initial.out l.done l.out
