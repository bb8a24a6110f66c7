-- `segments::components::column_unit`: the product of two small numbers. Assumes nothing.
use Prim.Native.Nat.{◌*◌, ◌≤◌}
use native.Mathlib.Nat.{mul-le-mul}
use native.Mathlib.Omega.{arith}
use Rattle.segments.proofs.components.column_unit.Goals.{After-power}
use Rattle.segments.proofs.components.column_unit.Goals as goal

small : (c : After-power) → c.args.m * c.power.result ≤ 15 * 32
small c = mul-le-mul {n₂ = 15} {m₂ = 32} (omega (arith, c.requires.1)) c.power.ensures.few

pub overflow_mul-result : goal.overflow_mul-result
overflow_mul-result c =
    omega (arith, small (goal.at.overflow_mul-result c).After-power)

pub returns : goal.returns
returns c =
    (λ i. c.args.m * c.power.ensures.is i, omega (arith, small (goal.at.returns c).After-power))
