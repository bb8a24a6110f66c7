-- `bits::field` meets its contract: the field is a part of the four bytes from its first on. Assumes nothing.
use Prim.Native.Nat.{◌%◌}
use native.Mathlib.Omega.{arith}
use lib.Pow.{pow_pos}
use Rattle.whole.proofs.Machine.{one_shl}
use Rattle.bits.proofs.Laws.{is_part}
use Rattle.bits.proofs.field.Goals as goal

pub nonzero_rem-result-2 : goal.nonzero_rem-result-2
nonzero_rem-result-2 c = rw (one_shl c.args.n (omega arith)) (pow_pos c.args.n)

pub returns : goal.returns
returns c =
    let a = c.args in
    rw (one_shl a.n (omega arith)) (is_part (a.i % 8) _ c.u32_at.ensures (omega arith) (omega arith))
