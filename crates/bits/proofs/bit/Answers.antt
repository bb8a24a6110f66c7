-- `bits::bit` meets its contract: the bit is a part of its byte. Assumes nothing.
use Prim.Native.Nat.{◌%◌}
use native.Mathlib.Omega.{arith}
use Rattle.bits.proofs.Laws.{is_part}
use Rattle.bits.proofs.bit.Goals as goal

pub returns : goal.returns
returns c = is_part (c.args.i % 8) _ c.u8_at.ensures (omega arith) (omega arith)
