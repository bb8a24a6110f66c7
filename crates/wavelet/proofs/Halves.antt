-- The sizes of bands from level to level: B.2's formulas over a component's size and the halves that a filter joins are the same, and a band's
-- coefficients stand in the component. Assumes nothing.
use mathlib.Core.Path.{◌≡◌, sym, ap, ◌∙◌}
use Prim.Native.Nat.{ℕ, zero, suc, ◌+◌, ◌*◌, ◌-◌, ◌/◌, ◌^◌, ◌<◌}
use native.Mathlib.Nat.{add-div_right, div-div-eq-div-mul, le-div_iff_mul-le, pow-suc, suc-mul, add-mul, mul_assoc, mul_comm}
use native.Mathlib.Omega.{arith}
use lib.Pow.{pow_pos}
use Rattle.whole.specs.Numbers.{ceil_div}
use Rattle.wavelet.specs.Transform.{low_size, high_size}
use Rattle.wavelet.specs.Places.{place}

half_ceil : (n m : ℕ) → 0 < m → ceil_div (ceil_div n m) 2 ≡ ceil_div n (m * 2)
half_ceil n m h =
    ap (λ (k : ℕ). k / 2) (sym (add-div_right (n + (m - 1)) h)) ∙ div-div-eq-div-mul (n + (m - 1) + m) m 2 ∙ ap (λ (k : ℕ). k / (m * 2)) (omega arith)

double : (d : ℕ) → 0 < d → 2 ^ d ≡ 2 ^ (d - 1) * 2
double zero h = absurd (omega arith)
double (suc d) h =
    let e : suc d - 1 ≡ d = omega arith in
    rw e (pow-suc 2 d)

-- a low-pass band has half of the samples, rounded up, of the band one level up
pub low_half : (n d : ℕ) → 0 < d → ceil_div (low_size n (d - 1)) 2 ≡ low_size n d
low_half n d h = half_ceil n (2 ^ (d - 1)) (pow_pos (d - 1)) ∙ ap (ceil_div n) (sym (double d h))

-- at depth 0 it has all of them
pub low_all : (n : ℕ) → low_size n 0 ≡ n
low_all n = omega arith

-- ---- places

-- the places of a line of n that are multiples of s are ceil(n / s)
module _ {s : ℕ} (up : 0 < s) (n i : ℕ) where
  pub below_size : i < ceil_div n s → i * s < n
  below_size h = omega (arith, (le-div_iff_mul-le {k = s} {x = suc i} {y = n + (s - 1)} up).0 h, suc-mul i s)

  pub size_above : i * s < n → i < ceil_div n s
  size_above h = (le-div_iff_mul-le up).1 (omega (arith, suc-mul i s))

pub low_inside : (n d i : ℕ) → i < low_size n d → place 0 d i < n
low_inside n d i h = omega (arith, below_size (pow_pos d) n i h)

pub high_inside : (n d i : ℕ) → 0 < d → i < high_size n d → place 1 d i < n
high_inside n d i up h =
    omega (
      arith,
      below_size (pow_pos (d - 1)) n (i * 2 + 1) (omega arith),
      add-mul (i * 2) 1 (2 ^ (d - 1)),
      mul_assoc i 2 (2 ^ (d - 1)),
      ap (λ (k : ℕ). i * k) (double d up ∙ mul_comm (2 ^ (d - 1)) 2),
    )
