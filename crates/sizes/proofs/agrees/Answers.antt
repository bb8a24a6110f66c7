-- `sizes::agrees`: what the quantiser is given is carried. Assumes nothing.
use Rattle.std.proofs.Common.{ℕ, ◌-◌, ◌*◌, ◌%◌, ◌^◌, ◌≤◌, ◌<◌, arith}
use native.Mathlib.Nat.{lt_of_lt_of_le}
use lib.Pow.{pow_mono}
use mir.Syntax.{w64}
use mir.Facts.{to_z_pos}
use Rattle.whole.proofs.Machine.{one_shl}
use Rattle.quantiser.specs.Inverse.{Carried}
use Rattle.sizes.proofs.agrees.Goals as goal

carried : (m t v : ℕ) → m ≤ 31 → t < m → v < (1 * 2 ^ (m - t)) % 2 ^ 64 → Carried m t v
carried m t v most some h = record { count = most; below = omega (arith, h, one_shl (m - t) (omega arith)) }

small : (m t v : ℕ) → Carried m t v → v < 2 ^ 31
small m t v k = lt_of_lt_of_le k.below (pow_mono {j = 31} (omega (arith, k.count)))

pub overflow_cast-l : goal.overflow_cast-l
overflow_cast-l c =
    let l = c.args.l in
    record { sfits = omega (arith, small l.m l.t l.v (carried l.m l.t l.v c.if-l-gt31.false c.if-l.false c.if-l-2.false)) }

pub scaled_coefficient-requires : goal.scaled_coefficient-requires
scaled_coefficient-requires c =
    let l = c.args.l in
    let is = carried l.m l.t l.v c.if-l-gt31.false c.if-l.false c.if-l-2.false in
    rw (to_z_pos w64 {n = l.v} (omega (arith, small l.m l.t l.v is))) (is, omega arith)
