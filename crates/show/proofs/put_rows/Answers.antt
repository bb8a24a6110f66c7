-- `show::put_rows`: row by row. Assumes nothing.
use Rattle.show.specs.Planes.{kind_of, cells_of}
use Rattle.show.specs.Text.{rows}
use Rattle.show.proofs.Puts.{shown_none, shown_row}
use Rattle.show.proofs.put_rows.Goals as goal

pub loop-y-init : goal.loop-y-init
unfolding rows
loop-y-init c = shown_none _ _

pub loop-y-preserved : goal.loop-y-preserved
loop-y-preserved c =
    let a = c.args in
    shown_row (kind_of a.plane) (cells_of a.plane) a.width a.p.next c.loop-y.y c.loop-y.invariant c.put_next_row-done.ensures
