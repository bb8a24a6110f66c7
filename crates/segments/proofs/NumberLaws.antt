-- Laws of numbers that belong to every layer. Assumes nothing.
use Prim.Native.Nat.{ℕ, ◌+◌, ◌-◌, ◌≤◌}
use mathlib.Core.Bool.{Bool, true, false, cond}
use mathlib.Core.Path.{◌≡◌}
use native.Mathlib.Nat.{div-le_self}
use native.Mathlib.Omega.{arith}
use Rattle.whole.specs.Numbers.{ceil_div}

pub ceil_le : (a b : ℕ) → ceil_div a b ≤ a + b
ceil_le a b = omega (arith, div-le_self (a + (b - 1)) b)

-- one of two numbers
pub cond_le : (t : Bool) (a b m : ℕ) {r : ℕ} → a ≤ m → b ≤ m → r ≡ cond t a b → r ≤ m
cond_le true a b m h k e = omega (arith, e)
cond_le false a b m h k e = omega (arith, e)
