-- `values::words::four_bits` meets its contract: a part of two bytes. Assumes nothing.
use Prim.Native.Nat.{◌%◌}
use native.Mathlib.Omega.{arith}
use Rattle.bits.proofs.Laws.{is_joined, is_part}
use Rattle.values.proofs.words.four_bits.Goals as goal

pub returns : goal.returns
returns c =
    let two = is_joined {w = 16} c.u8_at.ensures c.u8_at-2.ensures (omega arith) (omega arith) in
    is_part {n = 4} (c.args.i % 8) _ two (omega arith) (omega arith)
