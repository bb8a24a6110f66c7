-- `show::put_next_row`: a row where there is one. Assumes nothing.
use Rattle.std.proofs.Common.{arith}
use Rattle.show.specs.Planes.{kind_of, cells_of}
use Rattle.show.proofs.Puts.{row_left}
use Rattle.show.proofs.put_next_row.Goals as goal

pub returns-in_default : goal.returns-in_default
returns-in_default c =
    let a = c.args in
    row_left (kind_of a.plane) (cells_of a.plane) a.width a.p _ (omega arith)

pub returns-in_default-2 : goal.returns-in_default-2
returns-in_default-2 c =
    let a = c.args in
    row_left (kind_of a.plane) (cells_of a.plane) a.width a.p _ (omega arith)
