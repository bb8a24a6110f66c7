-- `of_spoilt` meets its contract. Assumes nothing.
use mathlib.Core.Path.{refl}
use native.Mathlib.Nat.{add-zero}
use Rattle.pieces.specs.Pieces.{total}
use Rattle.pieces.proofs.Bytes.of_spoilt.Goals as goal

pub returns : goal.returns
unfolding total
returns c = rw (add-zero c.args.«size») refl
