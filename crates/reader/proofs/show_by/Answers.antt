-- `reader::show_by` meets its contract. Assumes nothing.
use Rattle.reader.proofs.Shown.{shows_none}
use Rattle.reader.proofs.show_by.Goals as goal

pub returns-in-Ok : goal.returns-in-Ok
returns-in-Ok c = rw c.in-Ok.is c.show.ensures

pub returns-in-Err : goal.returns-in-Err
returns-in-Err c = shows_none c.in-Err.is c.refused.ensures
