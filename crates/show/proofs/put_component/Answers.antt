-- `show::put_component`: nothing, or its title and its rows. Assumes nothing.
use Rattle.std.proofs.Common.{arith}
use Rattle.show.specs.Planes.{kind_of, cells_of}
use Rattle.show.proofs.Puts.{no_component, one_component}
use Rattle.show.proofs.put_component.Goals as goal

pub returns-then-page-i : goal.returns-then-page-i
returns-then-page-i c =
    let a = c.args in
    no_component a.page (kind_of a.plane) (cells_of a.plane) a.i a.p _ (omega arith)

pub returns : goal.returns
returns c =
    let a = c.args in
    one_component a.page (kind_of a.plane) (cells_of a.plane) a.i a.p.next (omega arith) c.put_title.ensures c.put_rows.ensures
