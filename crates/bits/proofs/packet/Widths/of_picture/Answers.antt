-- `bits::packet::Widths::of_picture` meets its contract. Assumes nothing.
use Prim.Native.Nat.{◌≤◌}
use native.Mathlib.Omega.{arith}
use native.Mathlib.Nat.{mul-le-mul_right}
use Rattle.bits.proofs.Headers.{widths_of}
use Rattle.bits.proofs.packet.Widths.of_picture.Goals as goal

pub overflow_mul-short : goal.overflow_mul-short
overflow_mul-short c =
    let h : c.args.wf ≤ 65535 = omega arith in
    omega (arith, mul-le-mul_right c.args.nc h)

pub returns-then-short : goal.returns-then-short
returns-then-short c = widths_of _ _ _ c.if-short.true c.short.ensures

pub returns-else-short : goal.returns-else-short
returns-else-short c = widths_of _ _ _ c.if-short.false c.long.ensures
