-- The quantisers over sizes: a size below 2 ^ max(M, T) comes back at most 2 ^ T - 1 away, its index has M - T planes, and what an index of M - T
-- planes gives is below 2 ^ M. Assumes nothing.
use mathlib.Core.Path.{◌≡◌, sym, ap, ap₂, ◌∙◌, subst}
use mathlib.Core.Bool.{Bool, true, false, and-false}
use Prim.Native.Nat.{ℕ, zero, suc, ◌+◌, ◌-◌, ◌*◌, ◌/◌, ◌%◌, ◌^◌, ◌≤◌, ◌<◌, max}
use native.Mathlib.Nat.{le_refl, le_of_lt, lt_of_not-le, lt_of_lt_of_le, zero-lt-suc, not-suc-le-zero, max-eq_left, max-eq_right, sub-zero, sub-add_cancel, pow-suc}
use native.Mathlib.Nat.{zero-mul, one-mul, add-mul, suc-mul, mul-suc, mul_comm, mul_assoc, mul_right_comm, mul-le-mul_left, mul-le-mul_right, mul-lt-mul_of_pos_right}
use native.Mathlib.Nat.{div-one, zero-div, div-add-mod', mod-lt}
use native.Mathlib.Decide.{dec_le}
use native.Mathlib.Omega.{arith}
use borrow.Author.Tests.{lt-ltb, le-ltb, ne_eqb}
use lib.Dec.{ltb}
use lib.Arith.{digits_div, lt-one}
use lib.Pow.{pow_pos, pow_mono, pow-add, suc_ones, shr_lt}
use Rattle.whole.specs.Numbers.{Near}
use Rattle.quantiser.specs.Inverse.{deadzone, series, uniform, inverse}
use Rattle.quantiser.specs.Note.{by_buckets, Agree}
use Rattle.quantiser.specs.Forward.{deadzone_index, uniform_index, forward}
use Rattle.quantiser.proofs.Sum.{series_zero, series_divided}

-- ---- the definitions, with their cases known

-- the index 0
pub deadzone_zero : (M T : ℕ) → deadzone M T 0 ≡ 0
unfolding deadzone
deadzone_zero M T = rw (and-false (ltb T M))

pub uniform_zero : (M T : ℕ) → uniform M T 0 ≡ 0
unfolding uniform
uniform_zero M T = rw (and-false (ltb T M))

-- no planes are coded
deadzone_off : (M T v : ℕ) → M ≤ T → deadzone M T v ≡ 0
unfolding deadzone
deadzone_off M T v h = rw (le-ltb T M h)

uniform_off : (M T v : ℕ) → M ≤ T → uniform M T v ≡ 0
unfolding uniform
uniform_off M T v h = rw (le-ltb T M h)

uniform_index_off : (M T d : ℕ) → M ≤ T → uniform_index M T d ≡ 0
unfolding uniform_index
uniform_index_off M T d h = rw (le-ltb T M h)

-- planes are coded
pub deadzone_on : (M T v : ℕ) → T < M → 0 < v → deadzone M T v ≡ v * 2 ^ T + 2 ^ T / 2
unfolding deadzone
deadzone_on M T v h g = rw (lt-ltb T M h, ne_eqb v 0 (λ e. omega arith))

uniform_on : (M T v : ℕ) → T < M → uniform M T v ≡ series (2 ^ (M - T + 1)) (v * 2 ^ T)
unfolding uniform
uniform_on M T zero h = uniform_zero M T ∙ sym (ap (series (2 ^ (M - T + 1))) (zero-mul (2 ^ T)) ∙ series_zero (2 ^ (M - T + 1)))
uniform_on M T (suc v) h = rw (lt-ltb T M h, ne_eqb (suc v) 0 (λ e. omega arith))

-- ---- M above T, with the powers that hang on them: b = c + 1 is the base of D.3's sum

record Coded (M T : ℕ) : Type 0 where
  c : ℕ
  base : suc c ≡ 2 ^ (M - T + 1)
  half : 2 ^ (M - T) * 2 ≡ suc c
  whole : 2 ^ T * suc c ≡ 2 ^ (M + 1)
  top : 2 ^ M * 2 ≡ 2 ^ (M + 1)
  big : 3 ≤ c

coded : (M T : ℕ) → T < M → Coded M T
coded M T h =
    let z : ℕ = M - T + 1 in
    record {
      c = 2 ^ z - 1;
      base = suc_ones z;
      half = sym (pow-add 2 (M - T) 1) ∙ sym (suc_ones z);
      whole = ap (λ (x : ℕ). 2 ^ T * x) (suc_ones z) ∙ sym (pow-add 2 T z) ∙ ap (λ (x : ℕ). 2 ^ x) (omega arith);
      top = sym (pow-add 2 M 1);
      big = omega (arith, suc_ones z, pow_mono {i = 2} {j = z} (omega arith));
    }

-- The facts of plain arithmetic below have d for a size, v for its index, s for D.3's sum, l and x for the rests of the two divisions.

-- a product of two numbers above 0 is at least their sum, less 1
prod_ge : (u c : ℕ) → 0 < u → 0 < c → u + c ≤ u * c + 1
prod_ge zero c hu hc = absurd (not-suc-le-zero hu)
prod_ge (suc u) c hu hc = omega (arith, suc-mul u c, mul-le-mul_left u hc)

module _ {M T : ℕ} (k : Coded M T) where
  -- D.5 rounds to an index of M - T planes
  index_below : (d v l : ℕ) → d < 2 ^ M → v * 2 ^ (M + 1) + l ≡ d * k.c + 2 ^ M → v < 2 ^ (M - T)
  index_below d v l hd e = lt_of_not-le no_more
    where
      no_more : 2 ^ (M - T) ≤ v → ⊥
      no_more g =
          let a : ℕ = 2 ^ (M - T) in
          let h : ℕ = 2 ^ M in
          let prod : a * 2 ^ (M + 1) ≡ k.c * h + h =
          ap (λ (x : ℕ). a * x) (sym k.top ∙ mul_comm h 2) ∙ sym (mul_assoc a 2 h) ∙ ap (λ (x : ℕ). x * h) k.half ∙ suc-mul k.c h in
          omega (arith, prod, mul_comm k.c h, mul-le-mul_right (2 ^ (M + 1)) g, mul-lt-mul_of_pos_right hd (lt_of_lt_of_le (zero-lt-suc 2) k.big))

  -- the sum of such an index is below 2 ^ M
  sum_below : (v s x : ℕ) → v < 2 ^ (M - T) → s * k.c + x ≡ v * 2 ^ (M + 1) → s < 2 ^ M
  sum_below v s x hv e = lt_of_not-le no_more
    where
      no_more : 2 ^ M ≤ s → ⊥
      no_more g =
          let h : ℕ = 2 ^ M in
          let prod : v * 2 ^ (M + 1) ≡ v * 2 * h = ap (λ (x : ℕ). v * x) (sym k.top ∙ mul_comm h 2) ∙ sym (mul_assoc v 2 h) in
          let less : v * 2 + 1 ≤ k.c = omega (arith, k.half) in
          omega (arith, prod, mul_comm k.c h, mul-le-mul_right k.c g, mul-le-mul_right h less, add-mul (v * 2) 1 h, one-mul h, pow_pos M)

  -- the sum is at most 2 ^ T - 1 above the size
  sum_over : (d s x l : ℕ) → s * k.c + x + l ≡ d * k.c + 2 ^ M → s < d + 2 ^ T
  sum_over d s x l e = lt_of_not-le no_more
    where
      no_more : d + 2 ^ T ≤ s → ⊥
      no_more g =
          omega (arith, k, mul-le-mul_right k.c g, add-mul d (2 ^ T) k.c, mul-suc (2 ^ T) k.c, mul-le-mul_left (2 ^ T) k.big, pow_pos T)

-- the size is at most 2 ^ T - 1 above the sum, where 2 ^ T is even
sum_under : {M T : ℕ} (k : Coded M (suc T)) (d s x l : ℕ) → x < k.c → l < 2 ^ (M + 1) → s * k.c + x + l ≡ d * k.c + 2 ^ M → d < s + 2 ^ suc T
sum_under {M} {T} k d s x l hx hl e = lt_of_not-le no_more
  where
    no_more : s + 2 ^ suc T ≤ d → ⊥
    no_more g =
        let u : ℕ = 2 ^ T in
        let t : 2 ^ suc T ≡ u * 2 = pow-suc 2 T in
        let prod : u * 2 * k.c ≡ u * k.c * 2 = mul_right_comm u 2 k.c in
        omega (arith, k, mul-le-mul_right k.c g, add-mul s (2 ^ suc T) k.c, mul-suc (2 ^ suc T) k.c, ap (λ (n : ℕ). n * k.c) t, prod, prod_ge u k.c (pow_pos T) (lt_of_lt_of_le (zero-lt-suc 2) k.big))

-- ---- D.3

-- the sum of an index that fits, times c, with a rest below c, makes v * 2 ^ (M + 1)
record Summed (M T v c : ℕ) : Type 0 where
  rest : ℕ
  sum : uniform M T v * c + rest ≡ v * 2 ^ (M + 1)
  below : rest < c

summed : (M T v : ℕ) (h : T < M) → v < 2 ^ (M - T) → Summed M T v (coded M T h).c
summed M T v h hv =
    let k = coded M T h in
    let w = series_divided k.c (M - T + 1) v k.base (omega arith) (omega (arith, k.base, k.half)) T in
    record {
      rest = w.rest;
      sum =
          ap (λ (x : ℕ). x * k.c + w.rest) (uniform_on M T v h ∙ ap (λ (x : ℕ). series x (v * 2 ^ T)) (sym k.base))
          ∙ w.whole ∙ mul_assoc v (2 ^ T) (suc k.c) ∙ ap (λ (x : ℕ). v * x) k.whole;
      below = w.below;
    }

-- Document 02, C-14: 'the two agree for all M above T and v below 2^(M-T)'
pub uniform_division : (M T v : ℕ) → T < M → v < 2 ^ (M - T) → Agree M T v
uniform_division M T v h hv =
    let k = coded M T h in
    let w = summed M T v h hv in
    let size : uniform M T v ≡ by_buckets M T v = sym (digits_div (uniform M T v) w.below) ∙ ap₂ ◌/◌ (omega (arith, w.sum)) (omega (arith, k.base)) in
    record { sum = sym (uniform_on M T v h) ∙ size; size = size }

uniform_small : (M T v : ℕ) → T < M → v < 2 ^ (M - T) → uniform M T v < 2 ^ M
uniform_small M T v h hv = let w = summed M T v h hv in sum_below (coded M T h) v (uniform M T v) w.rest hv w.sum

-- ---- D.5, and D.3 after it

-- what the division of D.5 leaves
record Rounded (M T d c : ℕ) : Type 0 where
  left : ℕ
  sum : uniform_index M T d * 2 ^ (M + 1) + left ≡ d * c + 2 ^ M
  below : left < 2 ^ (M + 1)

rounded : (M T d : ℕ) (h : T < M) → Rounded M T d (coded M T h).c
unfolding uniform_index
rounded M T d h =
    let k = coded M T h in
    let n : ℕ = d * 2 ^ (M - T + 1) - d + 2 ^ M in
    let same : n ≡ d * k.c + 2 ^ M = omega (arith, mul-suc d k.c, ap (λ (x : ℕ). d * x) k.base) in
    record {
      left = n % 2 ^ (M + 1);
      sum = rw (lt-ltb T M h) (div-add-mod' n (2 ^ (M + 1)) ∙ same);
      below = mod-lt n (pow_pos (M + 1));
    }

-- a number has one quotient
one_quotient : (q r q' r' : ℕ) {m : ℕ} → r < m → r' < m → q * m + r ≡ q' * m + r' → q ≡ q'
one_quotient q r q' r' {m} h h' e = sym (digits_div q h) ∙ ap (λ (x : ℕ). x / m) e ∙ digits_div q' h'

-- with T = 0 both are exact: c + 1 is 2 ^ (M + 1) there
uniform_index_exact : (M d : ℕ) → 0 < M → d < 2 ^ M → uniform_index M 0 d ≡ d
uniform_index_exact M d h hd =
    let k = coded M 0 h in
    let r = rounded M 0 d h in
    one_quotient (uniform_index M 0 d) r.left d (2 ^ M - d) r.below (omega (arith, k.top, pow_pos M))
    (omega (arith, r.sum, mul-suc d k.c, ap (λ (x : ℕ). d * x) (sym k.whole ∙ one-mul (suc k.c))))

uniform_exact : (M v : ℕ) → 0 < M → v < 2 ^ M → uniform M 0 v ≡ v
uniform_exact M v h hv =
    let k = coded M 0 h in
    let fits : v < 2 ^ (M - 0) = rw sub-zero hv in
    let w = summed M 0 v h fits in
    one_quotient (uniform M 0 v) w.rest v v w.below (omega (arith, k.half, k.big))
    (omega (arith, w.sum, mul-suc v k.c, ap (λ (x : ℕ). v * x) (sym k.whole ∙ one-mul (suc k.c))))

uniform_index_fits : (M T d : ℕ) → T < M → d < 2 ^ M → uniform_index M T d < 2 ^ (M - T)
uniform_index_fits M T d h hd = let r = rounded M T d h in index_below (coded M T h) d (uniform_index M T d) r.left hd r.sum

uniform_near : (M T d : ℕ) → T < M → d < 2 ^ M → Near (2 ^ T - 1) d (uniform M T (uniform_index M T d))
uniform_near M zero d h hd =
    let same : uniform M 0 (uniform_index M 0 d) ≡ d = ap (uniform M 0) (uniform_index_exact M d h hd) ∙ uniform_exact M d h hd in
    record { over = omega (arith, same); under = omega (arith, same) }
uniform_near M (suc T) d h hd =
    let k = coded M (suc T) h in
    let v : ℕ = uniform_index M (suc T) d in
    let s : ℕ = uniform M (suc T) v in
    let r = rounded M (suc T) d h in
    let w = summed M (suc T) v h (uniform_index_fits M (suc T) d h hd) in
    let both : s * k.c + w.rest + r.left ≡ d * k.c + 2 ^ M = omega (arith, w.sum, r.sum) in
    record {
      over = omega (arith, sum_under k d s w.rest r.left w.below r.below both);
      under = omega (arith, sum_over k d s w.rest r.left both);
    }

-- ---- D.4, and D.2 after it

-- d is in the bucket that starts at v * 2 ^ T
deadzone_near : (M T d v r : ℕ) → T < M → v * 2 ^ T + r ≡ d → r < 2 ^ T → Near (2 ^ T - 1) d (deadzone M T v)
deadzone_near M T d zero r h e hr =
    record { over = omega (arith, deadzone_zero M T, zero-mul (2 ^ T)); under = omega (arith, deadzone_zero M T) }
deadzone_near M T d (suc v) r h e hr =
    let on = deadzone_on M T (suc v) h (zero-lt-suc v) in
    record { over = omega (arith, on); under = omega (arith, on) }

deadzone_small : (M T v : ℕ) → T < M → v < 2 ^ (M - T) → deadzone M T v < 2 ^ M
deadzone_small M T zero h hv = omega (arith, deadzone_zero M T, pow_pos M)
deadzone_small M T (suc v) h hv =
    omega (
      arith,
      deadzone_on M T (suc v) h (zero-lt-suc v),
      mul-le-mul_right (2 ^ T) hv,
      suc-mul (suc v) (2 ^ T),
      sym (pow-add 2 (M - T) T) ∙ ap (λ (x : ℕ). 2 ^ x) (sub-add_cancel (le_of_lt h)),
      pow_pos T,
    )

-- ---- either quantiser, every M and T

pub inverse_zero : (q : Bool) (M T : ℕ) → inverse q M T 0 ≡ 0
unfolding inverse
inverse_zero false M T = deadzone_zero M T
inverse_zero true M T = uniform_zero M T

pub inverse_off : (q : Bool) (M T v : ℕ) → M ≤ T → inverse q M T v ≡ 0
unfolding inverse
inverse_off false M T v h = deadzone_off M T v h
inverse_off true M T v h = uniform_off M T v h

-- the index of a size below 2 ^ max(M, T) has M - T planes, so a data subpacket can carry it
pub forward_fits : (q : Bool) (M T d : ℕ) → d < 2 ^ max M T → forward q M T d < 2 ^ (M - T)
unfolding forward deadzone_index
forward_fits false M T d h = shr_lt (M - T) T (subst (λ (x : ℕ). d < 2 ^ x) (omega arith) h)
forward_fits true M T d h = pick (dec_le M T)
  where
    pick : Dec (M ≤ T) → uniform_index M T d < 2 ^ (M - T)
    pick (yes g) = omega (arith, uniform_index_off M T d g, pow_pos (M - T))
    pick (no g) = uniform_index_fits M T d (lt_of_not-le g) (rw (max-eq_left (le_of_lt (lt_of_not-le g))) at h)

-- what such an index gives is below 2 ^ M
pub inverse_small : (q : Bool) (M T v : ℕ) → v < 2 ^ (M - T) → inverse q M T v < 2 ^ M
unfolding inverse
inverse_small q M T v h = pick q (dec_le M T)
  where
    pick : (q : Bool) → Dec (M ≤ T) → inverse q M T v < 2 ^ M
    pick q (yes g) = omega (arith, inverse_off q M T v g, pow_pos M)
    pick false (no g) = deadzone_small M T v (lt_of_not-le g) h
    pick true (no g) = uniform_small M T v (lt_of_not-le g) h

-- there and back
pub inverse_near : (q : Bool) (M T d : ℕ) → d < 2 ^ max M T → Near (2 ^ T - 1) d (inverse q M T (forward q M T d))
unfolding inverse forward deadzone_index
inverse_near q M T d h = pick q (dec_le M T)
  where
    pick : (q : Bool) → Dec (M ≤ T) → Near (2 ^ T - 1) d (inverse q M T (forward q M T d))
    pick q (yes g) =
        let off = inverse_off q M T (forward q M T d) g in
        let low : d < 2 ^ T = rw (max-eq_right g) at h in
        record { over = omega (arith, off); under = omega (arith, off) }
    pick false (no g) = deadzone_near M T d (d / 2 ^ T) (d % 2 ^ T) (lt_of_not-le g) (div-add-mod' d (2 ^ T)) (mod-lt d (pow_pos T))
    pick true (no g) = uniform_near M T d (lt_of_not-le g) (rw (max-eq_left (le_of_lt (lt_of_not-le g))) at h)

-- with T = 0 each way is exact
pub forward_exact : (q : Bool) (M d : ℕ) → d < 2 ^ M → forward q M 0 d ≡ d
unfolding forward deadzone_index
forward_exact false M d h = div-one d
forward_exact true zero d h = uniform_index_off 0 0 d (le_refl 0) ∙ sym (lt-one h)
forward_exact true (suc M) d h = uniform_index_exact (suc M) d (zero-lt-suc M) h

pub inverse_exact : (q : Bool) (M v : ℕ) → v < 2 ^ M → inverse q M 0 v ≡ v
unfolding inverse
inverse_exact q zero v h = inverse_off q 0 0 v (le_refl 0) ∙ sym (lt-one h)
inverse_exact false (suc M) zero h = deadzone_zero (suc M) 0
inverse_exact false (suc M) (suc v) h = deadzone_on (suc M) 0 (suc v) (zero-lt-suc M) (zero-lt-suc v) ∙ omega arith
inverse_exact true (suc M) v h = uniform_exact (suc M) v (zero-lt-suc M) h

-- ---- back and there: the forward quantiser takes the size of an index that M - T planes carry to that index

deadzone_back : (M T v : ℕ) → T < M → deadzone M T v / 2 ^ T ≡ v
deadzone_back M T zero h = ap (λ (n : ℕ). n / 2 ^ T) (deadzone_zero M T) ∙ zero-div (2 ^ T)
deadzone_back M T (suc v) h =
    ap (λ (n : ℕ). n / 2 ^ T) (deadzone_on M T (suc v) h (zero-lt-suc v)) ∙ digits_div (suc v) (omega (arith, pow_pos T))

-- D.5's half, 2 ^ M, makes good the rest of D.3's division, which is below 2 ^ M where T is above 0
uniform_back : (M T v : ℕ) → suc T < M → v < 2 ^ (M - suc T) → uniform_index M (suc T) (uniform M (suc T) v) ≡ v
uniform_back M T v h hv =
    let k = coded M (suc T) h in
    let d : ℕ = uniform M (suc T) v in
    let r = rounded M (suc T) d h in
    let w = summed M (suc T) v h hv in
    let less : w.rest < 2 ^ M = omega (arith, w.below, k.base, pow_mono {i = M - suc T + 1} {j = M} (omega arith)) in
    one_quotient (uniform_index M (suc T) d) r.left v (2 ^ M - w.rest) r.below (omega (arith, k.top, pow_pos M)) (omega (arith, r.sum, w.sum, less))

pub forward_back : (q : Bool) (M T v : ℕ) → v < 2 ^ (M - T) → forward q M T (inverse q M T v) ≡ v
unfolding forward inverse deadzone_index
forward_back q M zero v h =
    let e = inverse_exact q M v (rw sub-zero at h) in
    ap (forward q M 0) e ∙ forward_exact q M v (rw sub-zero at h)
forward_back q M (suc T) v h = pick q (dec_le M (suc T))
  where
    none : M ≤ suc T → v ≡ 0
    none g =
        let e : M - suc T ≡ 0 = omega arith in
        lt-one (subst (λ (n : ℕ). v < 2 ^ n) e h)

    pick : (q : Bool) → Dec (M ≤ suc T) → forward q M (suc T) (inverse q M (suc T) v) ≡ v
    pick false (yes g) = ap (λ (n : ℕ). n / 2 ^ suc T) (deadzone_off M (suc T) v g) ∙ zero-div (2 ^ suc T) ∙ sym (none g)
    pick true (yes g) = uniform_index_off M (suc T) (uniform M (suc T) v) g ∙ sym (none g)
    pick false (no g) = deadzone_back M (suc T) v (lt_of_not-le g)
    pick true (no g) = uniform_back M T v (lt_of_not-le g) h
