-- Laws of the numbers of the built range. Assumes nothing.
use mathlib.Core.Path.{◌≡◌}
use Prim.Native.Nat.{ℕ, zero, suc, ◌+◌, ◌*◌, ◌-◌, ◌^◌, ◌≤◌, ◌<◌}
use native.Mathlib.Nat.{mul-le-mul, mul-le-mul_left, div-le_self, div-eq_of_lt, div-le_of_le-mul, le-div_iff_mul-le, mul-le-mul_right, mul-suc, one-mul}
use native.Mathlib.Omega.{arith}
use lib.Pow.{pow_pos, pow_mono}
use Rattle.std.specs.Int.{div_ceil}
use Rattle.whole.specs.Numbers.{ceil_div}
use Rattle.wavelet.specs.Transform.{low_size, high_size}
use Rattle.wavelet.specs.Places.{place}
use Rattle.layout.specs.Precincts.{by_letter}

-- a letter is 0, or it is not
pub letter_low : {A : Type 0} {t : ℕ} (a b : A) → t ≡ 0 → by_letter t a b ≡ a
letter_low a b e = rw e

-- ---- ceilings

-- at most the number itself, and at least 1 of a number that is not 0
pub ceil_most : (e m : ℕ) → 0 < m → ceil_div e m ≤ e
ceil_most zero m h = omega (arith, div-eq_of_lt {n = 0 + (m - 1)} {m = m} (omega arith))
ceil_most (suc e) m h = div-le_of_le-mul m (omega (arith, mul-le-mul_right e h, mul-suc m e, one-mul e))

pub ceil_some : (e m : ℕ) → 0 < e → 0 < m → 1 ≤ ceil_div e m
ceil_some e m h k = (le-div_iff_mul-le k).1 (omega arith)

-- ---- sizes and places

pub size_most : (n t d : ℕ) → by_letter t (low_size n d) (high_size n d) ≤ n
size_most n zero d = ceil_most n (2 ^ d) (pow_pos d)
size_most n (suc t) d = omega (arith, div-le_self (ceil_div n (2 ^ (d - 1))) 2, ceil_most n (2 ^ (d - 1)) (pow_pos (d - 1)))

pub place_most : (t d i : ℕ) → t ≤ 1 → d ≤ 5 → place t d i ≤ i * 32 + 32
place_most t d i h k =
    omega (
      arith,
      mul-le-mul_left i (pow_mono {i = d} {j = 5} k),
      mul-le-mul {n₁ = t} {m₁ = 2 ^ (d - 1)} {n₂ = 1} {m₂ = 2 ^ 5} h (pow_mono {i = d - 1} {j = 5} (omega arith)),
    )
