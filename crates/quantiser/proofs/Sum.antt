-- The repeated sum of D.3 to the base b = c + 1: one turn of its loop, and that at v * 2 ^ T, with b = 2 ^ z and v below b / 2, it is one division
-- by c. Assumes nothing.
use mathlib.Core.Path.{◌≡◌, refl, sym, ap, ◌∙◌, subst}
use Prim.Native.Nat.{ℕ, zero, suc, ◌+◌, ◌-◌, ◌*◌, ◌/◌, ◌%◌, ◌^◌, ◌≤◌, ◌<◌}
use native.Mathlib.Nat.{le_refl, le_trans, le_of_lt, le_of_eq, le_of_suc-le-suc, not-suc-le-zero, zero-lt-suc, lt_of_lt_of_le, lt_of_le_of_lt, lt_of_not-le, lt_of_mul-lt-mul_right}
use native.Mathlib.Nat.{add-zero, add-mul, suc-mul, mul-suc, mul-one, mul_comm, mul_assoc, mul_right_comm, mul-le-mul_right, sub-add_cancel, pow-suc}
use native.Mathlib.Nat.{zero-div, div-lt_self, div-mul-le_self, div-eq_of_lt, div-add-mod', mul-div_cancel, mod-lt, mod-le}
use native.Mathlib.Decide.{dec_le}
use native.Mathlib.Omega.{arith}
use lib.Arith.{digits_div}
use lib.Pow.{pow_pos, pow_mono, pow-add}
use Rattle.quantiser.specs.Inverse.{terms, series}

-- ---- a turn of the loop

-- a quotient is below its dividend
smaller : (b n f : ℕ) → 1 < b → suc n ≤ suc f → suc n / b ≤ f
smaller b n f hb h = le_of_suc-le-suc (lt_of_lt_of_le (div-lt_self (zero-lt-suc n) hb) h)

-- fuel past n changes nothing
enough : (f g b n : ℕ) → 1 < b → n ≤ f → n ≤ g → terms f b n ≡ terms g b n
unfolding terms
enough zero zero b n hb h k = refl
enough zero (suc g) b zero hb h k = refl
enough zero (suc g) b (suc n) hb h k = absurd (not-suc-le-zero h)
enough (suc f) zero b zero hb h k = refl
enough (suc f) zero b (suc n) hb h k = absurd (not-suc-le-zero k)
enough (suc f) (suc g) b zero hb h k = refl
enough (suc f) (suc g) b (suc n) hb h k = ap (λ (x : ℕ). suc n + x) (enough f g b (suc n / b) hb (smaller b n f hb h) (smaller b n g hb k))

pub series_zero : (b : ℕ) → series b 0 ≡ 0
unfolding series terms
series_zero b = refl

series_step : (b n : ℕ) → 1 < b → series b n ≡ n + series b (n / b)
unfolding series terms
series_step b zero hb = rw zero-div
series_step b (suc n) hb = ap (λ (x : ℕ). suc n + x) (enough n (suc n / b) b (suc n / b) hb (smaller b n n hb (le_refl (suc n))) (le_refl (suc n / b)))

-- ---- one division

-- The sum times c, and a rest below c, make n * b: so the sum is n * b / c. (The rest is the sum of n's digits to the base b.)
pub record Divided (c n : ℕ) : Type 0 where
  pub rest : ℕ
  pub whole : series (suc c) n * c + rest ≡ n * suc c
  pub below : rest < c

-- a digit 0 more below leaves the same rest
carry : (c n m r s t : ℕ) → s ≡ n + t → t * c + r ≡ m * suc c → n ≡ m * suc c → s * c + r ≡ n * suc c
carry c n m r s t e w d = rw e (omega (arith, add-mul n t c, mul-suc n c))

-- two digits: their sum is the rest
two : (c n h l s : ℕ) → s ≡ n + h → n ≡ h * suc c + l → s * c + (h + l) ≡ n * suc c
two c n h l s e d = rw e (omega (arith, add-mul n h c, mul-suc n c, mul-suc h c))

module _ (c z v : ℕ) (e : suc c ≡ 2 ^ z) (hz : 1 < z) (hv : v * 2 < 2 ^ z) where
  big : 3 ≤ c
  big = omega (arith, e, pow_mono {i = 2} {j = z} hz)

  base : 1 < suc c
  base = omega (arith, big)

  -- a number below the base is its own sum
  one_term : (n : ℕ) → n < suc c → series (suc c) n ≡ n
  one_term n h = rw (series_step (suc c) n base, div-eq_of_lt h, series_zero (suc c)) (add-zero n)

  -- T below z: v * 2 ^ T has two digits. The high one is below 2 ^ T / 2, and the low one a multiple of 2 ^ T
  two_small : (T hi w : ℕ) → hi * 2 < 2 ^ T → w * 2 ^ T + 2 ^ T ≤ suc c → w ≤ v → hi + w * 2 ^ T < c
  two_small zero hi w a l g = omega (arith, big, mul-one w)
  two_small (suc T) hi w a l g = omega (arith, pow-suc 2 T, pow_pos T)

  short : (T : ℕ) → T < z → Divided c (v * 2 ^ T)
  short T h =
      let p : ℕ = 2 ^ T in
      let q : ℕ = 2 ^ (z - T) in
      let hi : ℕ = v / q in
      let lo : ℕ = v % q * p in
      let ez : q * p ≡ suc c = sym (pow-add 2 (z - T) T) ∙ ap (λ (x : ℕ). 2 ^ x) (sub-add_cancel (le_of_lt h)) ∙ sym e in
      let split : v * p ≡ hi * suc c + lo =
      ap (λ (x : ℕ). x * p) (sym (div-add-mod' v q)) ∙ add-mul (hi * q) (v % q) p ∙ ap (λ (x : ℕ). x + lo) (mul_assoc hi q p ∙ ap (λ (x : ℕ). hi * x) ez) in
      let low : lo + p ≤ suc c = le_trans (le_of_eq (sym (suc-mul (v % q) p))) (le_trans (mul-le-mul_right p (mod-lt v (pow_pos (z - T)))) (le_of_eq ez)) in
      let twice : hi * 2 * q < p * q =
      lt_of_le_of_lt (le_trans (le_of_eq (mul_right_comm hi 2 q)) (mul-le-mul_right 2 (div-mul-le_self v q))) (lt_of_lt_of_le hv (le_of_eq (sym e ∙ sym ez ∙ mul_comm q p))) in
      let high : hi * 2 < p = lt_of_mul-lt-mul_right q twice in
      let step : series (suc c) (v * p) ≡ v * p + hi =
      series_step (suc c) (v * p) base
      ∙ ap (λ (x : ℕ). v * p + series (suc c) x) (ap (λ (x : ℕ). x / suc c) split ∙ digits_div hi (omega (arith, low, pow_pos T)))
      ∙ ap (λ (x : ℕ). v * p + x) (one_term hi (omega (arith, high, low))) in
      record { rest = hi + lo; whole = two c (v * p) hi lo (series (suc c) (v * p)) step split; below = two_small T hi (v % q) high low (mod-le v q) }

  -- z places further up
  far : (T : ℕ) → Divided c (v * 2 ^ T) → Divided c (v * 2 ^ (T + z))
  far T w =
      let m : ℕ = v * 2 ^ T in
      let n : ℕ = v * 2 ^ (T + z) in
      let split : n ≡ m * suc c = ap (λ (x : ℕ). v * x) (pow-add 2 T z) ∙ sym (mul_assoc v (2 ^ T) (2 ^ z)) ∙ ap (λ (x : ℕ). m * x) (sym e) in
      let quot : n / suc c ≡ m = ap (λ (x : ℕ). x / suc c) split ∙ mul-div_cancel m (zero-lt-suc c) in
      let step : series (suc c) n ≡ n + series (suc c) m = series_step (suc c) n base ∙ ap (λ (x : ℕ). n + series (suc c) x) quot in
      record { rest = w.rest; whole = carry c n m w.rest (series (suc c) n) (series (suc c) m) step w.whole split; below = w.below }

  all : (f T : ℕ) → T ≤ f → Divided c (v * 2 ^ T)
  all zero T h = short T (omega arith)
  all (suc f) T h = pick (all f (T - z)) (dec_le z T)
    where
      pick : (T - z ≤ f → Divided c (v * 2 ^ (T - z))) → Dec (z ≤ T) → Divided c (v * 2 ^ T)
      pick before (no g) = short T (lt_of_not-le g)
      pick before (yes g) = subst (λ (x : ℕ). Divided c (v * 2 ^ x)) (sub-add_cancel g) (far (T - z) (before (omega arith)))

  pub series_divided : (T : ℕ) → Divided c (v * 2 ^ T)
  series_divided T = all T T (le_refl T)
