-- `bits::nibble` meets its contract: the nibble is a part of its byte. Assumes nothing.
use Prim.Native.Nat.{◌*◌, ◌%◌}
use native.Mathlib.Omega.{arith}
use Rattle.bits.proofs.Laws.{is_part}
use Rattle.bits.proofs.nibble.Goals as goal

pub returns : goal.returns
returns c = is_part (4 * (c.args.k % 2)) _ c.u8_at.ensures (omega arith) (omega arith)
