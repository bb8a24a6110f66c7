-- `segments::components::last_column`: the product fits, for Cw has 16 bits and a unit is below 512. Assumes nothing.
use Prim.Native.Nat.{◌*◌}
use native.Mathlib.Nat.{mul-le-mul}
use native.Mathlib.Omega.{arith}
use Rattle.segments.proofs.components.last_column.Goals as goal

pub overflow_mul-h-2 : goal.overflow_mul-h-2
overflow_mul-h-2 c =
    omega (arith, mul-le-mul {n₁ = 8 * c.args.h.cw} {m₁ = c.args.unit} {n₂ = 524280} {m₂ = 511} (omega (arith, c.requires.0.cw)) (omega (arith, c.requires.1)))
