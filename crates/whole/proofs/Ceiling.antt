-- `div_ceil` of the machine's numbers is the ceiling that the definitions speak of. Assumes nothing.
use mathlib.Core.Path.{◌≡◌, sym}
use Prim.Native.Nat.{ℕ, ◌+◌, ◌/◌, ◌%◌, ◌<◌, min}
use native.Mathlib.Nat.{add-mul, one-mul, div-eq_of_lt-le}
use native.Mathlib.Omega.{arith}
use Rattle.std.specs.Int.{div_ceil}
use Rattle.std.proofs.lemmas.Grind.{div_ceil_times}
use Rattle.whole.specs.Numbers.{ceil_div}

pub div_ceil_is : (e m : ℕ) → 0 < m → div_ceil e m ≡ ceil_div e m
div_ceil_is e m h =
    let k : ℕ = e / m + min 1 (e % m) in
    let t = div_ceil_times e m h in
    sym (div-eq_of_lt-le {k = k} m (omega (arith, t.1)) (omega (arith, t.0, add-mul k 1 m, one-mul m)))
