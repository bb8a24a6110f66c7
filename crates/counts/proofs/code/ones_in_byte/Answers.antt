-- `counts::code::ones_in_byte` meets its contract: the rest of the byte is a window. Assumes nothing.
use Prim.Native.Nat.{ℕ, ◌-◌, ◌+◌, ◌*◌, ◌%◌, ◌^◌}
use mathlib.Core.Path.{◌≡◌}
use native.Mathlib.Omega.{arith}
use native.Mathlib.Nat.{mod-lt}
use lib.Count.{count_leading_zeros}
use lib.Pow.{pow_pos}
use Rattle.whole.proofs.Machine.{one_shl}
use Rattle.bits.proofs.Laws.{is_last}
use Rattle.counts.specs.Codes.{ones}
use Rattle.counts.proofs.Codes.{zeros_fit, ones_read}
use Rattle.counts.proofs.code.ones_in_byte.Goals.{After-u8_at}
use Rattle.counts.proofs.code.ones_in_byte.Goals as goal

abbrev width : ℕ → ℕ
width i = 8 - i % 8

-- 1 << w
shifted : (i : ℕ) → (1 * 2 ^ width i) % 2 ^ 64 ≡ 2 ^ width i
shifted i = one_shl (width i) (omega arith)

-- what the machine counts in its word
zeros : (c : After-u8_at) →
    let i = c.args.i in
    count_leading_zeros 64 (2 ^ width i - 1 - c.u8_at.result % 2 ^ width i) ≡ 64 - width i + ones c.args.s.now i (width i)
zeros c =
    let i = c.args.i in
    ones_read {w = width i} 64 (omega arith) (is_last {j = i} (i % 8) c.u8_at.ensures (omega arith) (omega arith))

pub overflow_sub-turned : goal.overflow_sub-turned
overflow_sub-turned c = let i = c.args.i in rw (shifted i) (pow_pos (width i))

pub nonzero_rem-turned : goal.nonzero_rem-turned
nonzero_rem-turned c = let i = c.args.i in rw (shifted i) (pow_pos (width i))

pub overflow_sub-turned-2 : goal.overflow_sub-turned-2
overflow_sub-turned-2 c =
    let i = c.args.i in
    rw (shifted i) (omega (arith, mod-lt c.u8_at.result (pow_pos (width i))))

pub overflow_cast-result : goal.overflow_cast-result
overflow_cast-result c = zeros_fit _

pub overflow_sub-result-2 : goal.overflow_sub-result-2
overflow_sub-result-2 c = rw (shifted c.args.i) (omega (arith, zeros (goal.at.overflow_sub-result-2 c).After-u8_at))

pub returns : goal.returns
returns c = rw (shifted c.args.i) (omega (arith, zeros (goal.at.returns c).After-u8_at))
