-- `by` meets its contract. Assumes nothing.
use mathlib.Core.Path.{sym}
use Rattle.pieces.specs.Pieces.{bytes_by}
use Rattle.pieces.proofs.Bytes.by.Goals as goal

pub returns-in-Err : goal.returns-in-Err
returns-in-Err c = λ i. bytes_by (sym c.in-Err.is i) c.args.self
