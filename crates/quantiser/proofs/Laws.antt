-- The laws of the quantisers over whole numbers, for either quantiser, every M and every T. Assumes nothing.
use mathlib.Core.Path.{◌≡◌, refl, sym, ap, ◌∙◌}
use mathlib.Core.Bool.{Bool, true, false, ◌&&◌}
use Prim.Native.Nat.{ℕ, zero, suc, ◌+◌, ◌-◌, ◌*◌, ◌/◌, ◌^◌, ◌≤◌, ◌<◌, max}
use native.Mathlib.Nat.{lt_of_lt_of_le, zero-mul, mul-le-mul_right, zero-div, mul-div_cancel, sub-zero}
use native.Mathlib.Omega.{arith}
use borrow.Author.Tests.{lt-ltb}
use lib.Dec.{ltb}
use lib.IntN.{ℤ, pos, negsuc, neg_ℤ, nat_abs, ◌*ℤ◌}
use lib.Pow.{pow_pos, pow_mono, shl_lt, ones_lt}
use Rattle.whole.specs.Numbers.{Within, by_size, signed}
use Rattle.whole.proofs.Machine.{size_neg, size_mul}
use Rattle.whole.proofs.Within.{within_zero, within_le, within_mul, within_size, signed_size}
use Rattle.quantiser.specs.Inverse.{inverse, coefficient_of, scaled, Carried}
use Rattle.quantiser.specs.Forward.{forward, index_of}
use Rattle.quantiser.specs.Distance.{band_number}
use Rattle.quantiser.proofs.Near.{inverse_zero, inverse_small, inverse_near, inverse_exact, forward_fits, forward_exact, forward_back}

-- ---- a rule on sizes, at a whole number

size_by : (f : ℕ → ℕ) (z : ℤ) → nat_abs (by_size f z) ≡ f (nat_abs z)
size_by f (pos n) = refl
size_by f (negsuc n) = size_neg (pos (f (suc n)))

same_by : (f : ℕ → ℕ) (z : ℤ) → f (nat_abs z) ≡ nat_abs z → by_size f z ≡ z
same_by f (pos n) e = ap pos e
same_by f (negsuc n) e = ap (λ (x : ℕ). neg_ℤ (pos x)) e

-- ---- there and back

module _ (q : Bool) (M T : ℕ) where
  -- an index of 0 is the coefficient 0
  pub coefficient_zero : coefficient_of q M T (pos 0) ≡ pos 0
  unfolding coefficient_of
  coefficient_zero = ap pos (inverse_zero q M T)

  -- σ × size, whatever the sign bit of an index of 0
  pub coefficient_signed : (s : Bool) (v : ℕ) → coefficient_of q M T (signed s v) ≡ signed s (inverse q M T v)
  unfolding coefficient_of
  coefficient_signed s v = signed_size (inverse q M T) (inverse_zero q M T) s v

  pub coefficient_small : (i : ℤ) → nat_abs i < 2 ^ (M - T) → nat_abs (coefficient_of q M T i) < 2 ^ M
  unfolding coefficient_of
  coefficient_small i h = rw (size_by (inverse q M T) i) (inverse_small q M T (nat_abs i) h)

  module _ (c : ℤ) (h : nat_abs c < 2 ^ max M T) where
    -- a data subpacket can carry the index
    pub index_fits : nat_abs (index_of q M T c) < 2 ^ (M - T)
    unfolding index_of
    index_fits = rw (size_by (forward q M T) c) (forward_fits q M T (nat_abs c) h)

    pub coefficient_within : Within (2 ^ T - 1) c (coefficient_of q M T (index_of q M T c))
    unfolding coefficient_of index_of
    coefficient_within =
        let n = inverse_near q M T (nat_abs c) h in
        within_size (forward q M T) (inverse q M T) (2 ^ T - 1) (inverse_zero q M T) c (n.over, n.under)

    -- the same of a sign bit and a magnitude in a stream that make the index of c
    pub stored_within : (s : Bool) (v : ℕ) → signed s v ≡ index_of q M T c → Within (2 ^ T - 1) c (coefficient_of q M T (signed s v))
    stored_within s v e = rw e coefficient_within

-- ---- with T = 0 each way is exact

module _ (q : Bool) (M : ℕ) where
  pub index_exact : (c : ℤ) → nat_abs c < 2 ^ M → index_of q M 0 c ≡ c
  unfolding index_of
  index_exact c h = same_by (forward q M 0) c (forward_exact q M (nat_abs c) h)

  pub coefficient_exact : (i : ℤ) → nat_abs i < 2 ^ M → coefficient_of q M 0 i ≡ i
  unfolding coefficient_of
  coefficient_exact i h = same_by (inverse q M 0) i (inverse_exact q M (nat_abs i) h)

  pub both_exact : (c : ℤ) → nat_abs c < 2 ^ M → coefficient_of q M 0 (index_of q M 0 c) ≡ c
  both_exact c h = ap (coefficient_of q M 0) (index_exact c h) ∙ coefficient_exact c h

-- and so either quantiser is as good there
pub either_exact : (q : Bool) (M T : ℕ) (i : ℤ) → nat_abs i < 2 ^ (M - T) → coefficient_of (q && ltb 0 T) M T i ≡ coefficient_of q M T i
either_exact q M zero i h = let l = rw sub-zero at h in coefficient_exact (q && false) M i l ∙ sym (coefficient_exact q M i l)
either_exact true M (suc T) i h = rw (lt-ltb 0 (suc T) (omega arith))
either_exact false M (suc T) i h = refl

-- ---- back and there

-- a rule g that takes back what f makes of a size takes back what f makes of a whole number
size_back : (f g : ℕ → ℕ) → g 0 ≡ 0 → (z : ℤ) → g (f (nat_abs z)) ≡ nat_abs z → by_size g (by_size f z) ≡ z
size_back f g none z e = sym (within_zero (within_size f g 0 none z (omega (arith, e), omega (arith, e))))

module _ (q : Bool) (M T : ℕ) where
  forward_zero : forward q M T 0 ≡ 0
  forward_zero = ap (forward q M T) (sym (inverse_zero q M T)) ∙ forward_back q M T 0 (pow_pos (M - T))

  -- the coefficient of an index that a data subpacket can carry has that index
  pub index_back : (i : ℤ) → nat_abs i < 2 ^ (M - T) → index_of q M T (coefficient_of q M T i) ≡ i
  unfolding index_of coefficient_of
  index_back i h = size_back (inverse q M T) (forward q M T) forward_zero i (forward_back q M T (nat_abs i) h)

  -- and so it has one
  pub coefficient_one : (i j : ℤ) → nat_abs i < 2 ^ (M - T) → nat_abs j < 2 ^ (M - T) → coefficient_of q M T i ≡ coefficient_of q M T j → i ≡ j
  coefficient_one i j hi hj e = sym (index_back i hi) ∙ ap (index_of q M T) e ∙ index_back j hj

-- ---- times 2 ^ Fq

pub scaled_zero : (Fq : ℕ) → scaled Fq (pos 0) ≡ pos 0
unfolding scaled
scaled_zero Fq = ap pos (zero-mul (2 ^ Fq))

-- of a sign bit and a size, whatever the sign bit of 0
scaled_signed : (Fq : ℕ) (s : Bool) (n : ℕ) → scaled Fq (signed s n) ≡ signed s (n * 2 ^ Fq)
unfolding scaled
scaled_signed Fq true zero = rw (zero-mul (2 ^ Fq))
scaled_signed Fq true (suc n) = refl
scaled_signed Fq false n = refl

pub coefficient_scaled : (q : Bool) (M T Fq : ℕ) (s : Bool) (v : ℕ) → scaled Fq (coefficient_of q M T (signed s v)) ≡ signed s (inverse q M T v * 2 ^ Fq)
coefficient_scaled q M T Fq s v = ap (scaled Fq) (coefficient_signed q M T s v) ∙ scaled_signed Fq s (inverse q M T v)

pub scaled_small : (Fq k : ℕ) (c : ℤ) → nat_abs c < 2 ^ k → nat_abs (scaled Fq c) < 2 ^ (k + Fq)
unfolding scaled
scaled_small Fq k c h = rw (size_mul c (2 ^ Fq)) (shl_lt k Fq h)

-- dividing sizes by 2 ^ Fq takes it back
pub scaled_back : (Fq : ℕ) (c : ℤ) → by_size (λ n. n / 2 ^ Fq) (scaled Fq c) ≡ c
unfolding scaled
scaled_back Fq c =
    ap (by_size (λ n. n / 2 ^ Fq)) (times c)
    ∙ size_back (λ n. n * 2 ^ Fq) (λ n. n / 2 ^ Fq) (zero-div (2 ^ Fq)) c (mul-div_cancel (nat_abs c) (pow_pos Fq))
  where
    times : (c : ℤ) → c *ℤ pos (2 ^ Fq) ≡ by_size (λ n. n * 2 ^ Fq) c
    times (pos n) = refl
    times (negsuc n) = refl

pub scaled_one : (Fq : ℕ) (x y : ℤ) → scaled Fq x ≡ scaled Fq y → x ≡ y
scaled_one Fq x y e = sym (scaled_back Fq x) ∙ ap (by_size (λ n. n / 2 ^ Fq)) e ∙ scaled_back Fq y

-- ---- sizes for words: of an index that a data subpacket can carry

pub carried_index : {M T v : ℕ} → Carried M T v → v < 2 ^ 31
carried_index {M} {T} k = lt_of_lt_of_le k.below (pow_mono {i = M - T} {j = 31} (omega (arith, k.count)))

module _ (q : Bool) {M T : ℕ} (i : ℤ) (k : Carried M T (nat_abs i)) where
  pub carried_small : nat_abs (coefficient_of q M T i) < 2 ^ 31
  carried_small = lt_of_lt_of_le (coefficient_small q M T i k.below) (pow_mono {j = 31} k.count)

  pub carried_scaled : {Fq F : ℕ} → Fq ≤ F → nat_abs (scaled Fq (coefficient_of q M T i)) < 2 ^ (31 + F)
  carried_scaled {Fq} {F} h = lt_of_lt_of_le (scaled_small Fq 31 (coefficient_of q M T i) carried_small) (pow_mono (omega arith))

-- the size itself, shifted by Fq
pub carried_shifted : (q : Bool) {M T v : ℕ} {Fq s : ℕ} → Carried M T v → Fq ≤ 15 → s ≡ inverse q M T v → s * 2 ^ Fq < 2 ^ 46
carried_shifted q {M} {T} {v} {Fq} k h e =
    lt_of_lt_of_le (shl_lt 31 Fq (rw e (lt_of_lt_of_le (inverse_small q M T v k.below) (pow_mono {j = 31} k.count)))) (pow_mono {i = 31 + Fq} {j = 46} (omega arith))

-- ---- a band's number

pub band_zero : (Fq : ℕ) → band_number 0 Fq ≡ 0
unfolding band_number
band_zero Fq = zero-mul (2 ^ Fq)

pub band_mono : {T U : ℕ} (Fq : ℕ) → T ≤ U → band_number T Fq ≤ band_number U Fq
unfolding band_number
band_mono {T} {U} Fq h = mul-le-mul_right (2 ^ Fq) (omega (arith, pow_mono h))

pub band_small : (T Fq : ℕ) → band_number T Fq < 2 ^ (T + Fq)
unfolding band_number
band_small T Fq = shl_lt T Fq (ones_lt T)

-- rule 1 for the coefficient's own T
pub scaled_within : (T Fq : ℕ) {x y : ℤ} → Within (2 ^ T - 1) x y → Within (band_number T Fq) (scaled Fq x) (scaled Fq y)
unfolding scaled band_number
scaled_within T Fq h = within_mul (2 ^ Fq) h

-- rule 1 for the largest T of the band, U: i is the index that a stream holds for c
pub band_within : (q : Bool) (M T U Fq : ℕ) (c i : ℤ) → T ≤ U → nat_abs c < 2 ^ max M T → i ≡ index_of q M T c
    → Within (band_number U Fq) (scaled Fq c) (scaled Fq (coefficient_of q M T i))
band_within q M T U Fq c i u h e = within_le (scaled_within T Fq (rw e (coefficient_within q M T c h))) (band_mono Fq u)
