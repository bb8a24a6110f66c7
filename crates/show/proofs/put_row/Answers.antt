-- `show::put_row`: cell by cell. Assumes nothing.
use Rattle.std.proofs.Common.{◌≡◌, arith}
use Rattle.show.specs.Planes.{kind_of, cells_of}
use Rattle.show.specs.Text.{cells_text}
use Rattle.show.proofs.Puts.{put_none, put_both, put_cell}
use Rattle.show.proofs.put_row.Goals as goal

pub loop-x-init : goal.loop-x-init
unfolding cells_text
loop-x-init c = put_none _ _

pub loop-x-preserved : goal.loop-x-preserved
loop-x-preserved c =
    let a = c.args in
    let number = rw c.cell.ensures at c.put_number-at.ensures in
    put_cell (kind_of a.plane) (cells_of a.plane) a.next c.loop-x.x c.loop-x.invariant c.put_gap-gap.ensures number

pub returns : goal.returns
returns c =
    let e : c.loop-x.x ≡ c.args.width = omega arith in
    put_both (rw e at c.loop-x.invariant) c.put_byte.ensures
