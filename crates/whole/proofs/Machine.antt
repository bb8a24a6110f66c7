-- Whole numbers as the machine has them: a value z of 64 signed bits that passed through a local is read as `to_z w64 (of_z w64 z)`, `-z` is
-- `0 - z`, and `1 << k` is `(1 * 2 ^ k) % 2 ^ 64`. Assumes nothing.
use mathlib.Core.Path.{◌≡◌, refl}
use mathlib.Core.Bool.{true, false}
use Prim.Native.Nat.{ℕ, suc, ◌+◌, ◌*◌, ◌%◌, ◌^◌, ◌≤◌, ◌<◌}
use native.Mathlib.Nat.{lt_of_le_of_lt, one-mul}
use native.Mathlib.Omega.{arith}
use lib.Dec.{T}
use lib.Pow.{pow-lt}
use lib.IntN.{ℤ, pos, negsuc, neg_ℤ, nat_abs, ◌+ℤ◌, ◌-ℤ◌, ◌*ℤ◌, +ℤ_idl}
use lib.Signed.{mag, mag_shr, shr_z, lt_z, non_neg}
use mir.Syntax.{Width, w64}
use mir.Val.{Fits, SFits, hbits, to_z, of_z}
use mir.ValLaws.{to_z-of_z}
use Rattle.whole.specs.Numbers.{with_sign}
use Rattle.whole.proofs.Linear.{up, dn, add_z, sub_z, neg_z, abs_z, to_abs, lt_z_true, lt_z_false}

-- ---- a number that fits a signed width

-- −2 ^ (bits − 1) ≤ z < 2 ^ (bits − 1)
pub fits_z : {w : Width} (z : ℤ) → (up z < dn z + 2 ^ hbits w) × (dn z ≤ up z + 2 ^ hbits w) → SFits w z
fits_z {w} z h = record { sfits = size z h }
  where
    size : (z : ℤ) → (up z < dn z + 2 ^ hbits w) × (dn z ≤ up z + 2 ^ hbits w) → mag z < 2 ^ hbits w
    size (pos n) h = omega arith
    size (negsuc n) h = omega arith

-- a size below 2 ^ 63 fits an i64
pub small_fits : (z : ℤ) → nat_abs z < 2 ^ 63 → SFits w64 z
small_fits z h = fits_z z (omega (arith, abs_z z))

pub shr_fits : {w : Width} (m : ℕ) {z : ℤ} → SFits w z → SFits w (shr_z z m)
shr_fits m {z} h = record { sfits = lt_of_le_of_lt (mag_shr z m) h.sfits }

-- an i64 is read back from its bits: with `mag z < ..`, as `c.CALL.ok` and `c.ARG.given` have it
pub back64 : (z : ℤ) → mag z < 2 ^ hbits w64 → to_z w64 (of_z w64 z) ≡ z
back64 z h = to_z-of_z w64 z (record { sfits = h })

-- with a bound on the size
pub read_small : (z : ℤ) → nat_abs z < 2 ^ 63 → to_z w64 (of_z w64 z) ≡ z
read_small z h = to_z-of_z w64 z (small_fits z h)

-- ---- sizes of results

pub size_add : (x y : ℤ) → nat_abs (x +ℤ y) ≤ nat_abs x + nat_abs y
size_add x y = to_abs (x +ℤ y) _ (omega (arith, add_z x y, abs_z x, abs_z y))

pub size_sub : (x y : ℤ) → nat_abs (x -ℤ y) ≤ nat_abs x + nat_abs y
size_sub x y = to_abs (x -ℤ y) _ (omega (arith, sub_z x y, abs_z x, abs_z y))

pub size_neg : (x : ℤ) → nat_abs (neg_ℤ x) ≡ nat_abs x
size_neg x = omega (arith, abs_z x, abs_z (neg_ℤ x), neg_z x)

pub size_mul : (x : ℤ) (m : ℕ) → nat_abs (x *ℤ pos m) ≡ nat_abs x * m
size_mul (pos n) m = refl
size_mul (negsuc n) m = size_neg (pos (suc n * m))

-- ---- the sign

pub zero_less : (z : ℤ) → pos 0 -ℤ z ≡ neg_ℤ z
zero_less z = +ℤ_idl (neg_ℤ z)

-- the two ways that a test `z < 0` goes
pub neg_is : (z : ℤ) → lt_z z (pos 0) ≡ true → neg_ℤ z ≡ pos (nat_abs z)
neg_is (pos a) e = absurd (omega (arith, lt_z_true (pos a) (pos 0) e))
neg_is (negsuc a) e = refl

pub pos_is : (z : ℤ) → lt_z z (pos 0) ≡ false → z ≡ pos (nat_abs z)
pos_is (pos a) e = refl
pos_is (negsuc a) e = absurd (omega (arith, lt_z_false (negsuc a) (pos 0) e))

pub neg_sign : (z : ℤ) (n : ℕ) → lt_z z (pos 0) ≡ true → with_sign z n ≡ neg_ℤ (pos n)
neg_sign (pos a) n e = absurd (omega (arith, lt_z_true (pos a) (pos 0) e))
neg_sign (negsuc a) n e = refl

pub pos_sign : (z : ℤ) (n : ℕ) → lt_z z (pos 0) ≡ false → with_sign z n ≡ pos n
pos_sign (pos a) n e = refl
pos_sign (negsuc a) n e = absurd (omega (arith, lt_z_false (negsuc a) (pos 0) e))

-- what a cast of a whole number n ≥ 0 to a u64 asks
pub cast_pos : (z : ℤ) (n : ℕ) → z ≡ pos n → n < 2 ^ 64 → T (non_neg z) × Fits w64 (nat_abs z)
cast_pos z n e h = rw e (tt, record { fits = h })

-- ---- `1 << k` at a word of 64 bits
pub one_shl : (k : ℕ) → k < 64 → (1 * 2 ^ k) % 2 ^ 64 ≡ 2 ^ k
one_shl k h = omega (arith, one-mul (2 ^ k), pow-lt {i = k} {j = 64} h)
