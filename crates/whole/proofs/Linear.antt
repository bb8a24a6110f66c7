-- ℤ for `omega`, which reads ℕ alone. A whole number z is the difference of two naturals, `up z` and `dn z`, of which one is 0. Each operation
-- has one linear law over these, and `omega (arith, add_z x y, shr_b 4 h z)` then proves what is linear over ℤ. Assumes nothing.
use mathlib.Core.Path.{◌≡◌, refl, sym, ap, ◌∙◌}
use mathlib.Core.Bool.{Bool, true, false, not, cond}
use Prim.Native.Nat.{ℕ, zero, suc, ◌+◌, ◌*◌, ◌-◌, ◌/◌, ◌≤◌, ◌<◌}
use native.Mathlib.Nat.{div-add-mod', mod-lt, mul_comm, mul-suc, mul-add, mul-one, mul-le-mul_left, zero-mul}
use native.Mathlib.Decide.{dec_le}
use native.Mathlib.Omega.{arith}
use borrow.Author.Tests.{ltb-true, ltb-false}
use lib.Dec.{T, ltb, ltb→lt, nltb→le}
use lib.IntN.{ℤ, pos, negsuc, neg_ℤ, sub_ℕ, nat_abs, ◌+ℤ◌, ◌-ℤ◌, ◌*ℤ◌}
use lib.Signed.{shr_z, lt_z}
use Rattle.whole.specs.Numbers.{ceil_div}

-- z = up z − dn z, and one of the two is 0
abbrev pub up : ℤ → ℕ
up (pos n) = n
up (negsuc n) = 0

abbrev pub dn : ℤ → ℕ
dn (pos n) = 0
dn (negsuc n) = suc n

-- ---- the operations

cond_ind : (c : Bool) (x y : ℤ) (P : ℤ → Type 0) → (T c → P x) → (T (not c) → P y) → P (cond c x y)
cond_ind true x y P f g = f tt
cond_ind false x y P f g = g tt

-- a − b of two naturals
pub diff_z : (a b : ℕ) → up (sub_ℕ a b) + b ≡ dn (sub_ℕ a b) + a
diff_z a b =
    cond_ind (ltb a b) (negsuc (b - suc a)) (pos (a - b)) (λ z. up z + b ≡ dn z + a)
    (λ t. below (ltb→lt a b t)) (λ t. above (nltb→le a b t))
  where
    below : a < b → 0 + b ≡ suc (b - suc a) + a
    below h = omega arith

    above : b ≤ a → a - b + b ≡ 0 + a
    above h = omega arith

pub add_z : (x y : ℤ) → up (x +ℤ y) + dn x + dn y ≡ dn (x +ℤ y) + up x + up y
add_z (pos a) (pos b) = omega arith
add_z (pos a) (negsuc b) = omega (arith, diff_z a (suc b))
add_z (negsuc a) (pos b) = omega (arith, diff_z b (suc a))
add_z (negsuc a) (negsuc b) = omega arith

pub neg_z : (x : ℤ) → (up (neg_ℤ x) ≡ dn x) × (dn (neg_ℤ x) ≡ up x)
neg_z (pos zero) = (refl, refl)
neg_z (pos (suc n)) = (refl, refl)
neg_z (negsuc n) = (refl, refl)

pub sub_z : (x y : ℤ) → up (x -ℤ y) + dn x + up y ≡ dn (x -ℤ y) + up x + dn y
sub_z x y = omega (arith, add_z x (neg_ℤ y), neg_z y)

-- a product by a natural
pub mul_z : (x : ℤ) (m : ℕ) → (up (x *ℤ pos m) ≡ up x * m) × (dn (x *ℤ pos m) ≡ dn x * m)
mul_z (pos a) m = (refl, sym (zero-mul m))
mul_z (negsuc a) m = ((neg_z (pos (suc a * m))).0 ∙ sym (zero-mul m), (neg_z (pos (suc a * m))).1)

-- the shift that rounds down: m q ≤ x < m q + m, for q = floor(x / m)
module _ (m : ℕ) (h : 0 < m) where
  pub div_low : (a : ℕ) → m * (a / m) ≤ a
  div_low a = omega (arith, div-add-mod' a m, mul_comm m (a / m))

  pub div_high : (a : ℕ) → a < m * (a / m) + m
  div_high a = omega (arith, div-add-mod' a m, mul_comm m (a / m), mod-lt a h)

  pub shr_b : (x : ℤ) → (m * up (shr_z x m) + dn x ≤ up x + m * dn (shr_z x m)) × (up x + m * dn (shr_z x m) < m * up (shr_z x m) + dn x + m)
  shr_b (pos a) = omega (arith, div_low a, div_high a)
  shr_b (negsuc a) = omega (arith, div_low a, div_high a, mul-suc m (a / m))

  -- m A < m B + d + m gives A ≤ B + ceil(d / m)
  pub ceil_step : (A B d : ℕ) → m * A < m * B + d + m → A ≤ B + ceil_div d m
  ceil_step A B d k = pick (dec_le A (B + ceil_div d m))
    where
      clash : ¬ (A ≤ B + ceil_div d m) → ⊥
      clash n =
          let p : B + ceil_div d m + 1 ≤ A = omega arith in
          let q : m * (B + ceil_div d m + 1) ≤ m * A = mul-le-mul_left m p in
          let r : d + (m - 1) < m * ceil_div d m + m = div_high (d + (m - 1)) in
          omega (arith, mul-add m (B + ceil_div d m) 1, mul-add m B (ceil_div d m), mul-one m)

      pick : Dec (A ≤ B + ceil_div d m) → A ≤ B + ceil_div d m
      pick (yes a) = a
      pick (no n) = absurd (clash n)

-- ---- relations, in and out

pub eq_z : (x y : ℤ) → up x + dn y ≡ up y + dn x → x ≡ y
eq_z (pos a) (pos b) h = ap pos (omega arith)
eq_z (pos a) (negsuc b) h = absurd (omega arith)
eq_z (negsuc a) (pos b) h = absurd (omega arith)
eq_z (negsuc a) (negsuc b) h = ap negsuc (omega arith)

-- |z| ≤ B
pub abs_z : (z : ℤ) → nat_abs z ≡ up z + dn z
abs_z (pos n) = omega arith
abs_z (negsuc n) = omega arith

pub to_abs : (z : ℤ) (B : ℕ) → (up z ≤ dn z + B) × (dn z ≤ up z + B) → nat_abs z ≤ B
to_abs (pos n) B h = omega arith
to_abs (negsuc n) B h = omega arith

-- |x − y| ≤ d
pub to_dist : (x y : ℤ) (d : ℕ) → (up x + dn y ≤ up y + dn x + d) × (up y + dn x ≤ up x + dn y + d) → nat_abs (x -ℤ y) ≤ d
to_dist x y d h = to_abs (x -ℤ y) d (omega (arith, sub_z x y))

pub of_dist : (x y : ℤ) {d : ℕ} → nat_abs (x -ℤ y) ≤ d → (up x + dn y ≤ up y + dn x + d) × (up y + dn x ≤ up x + dn y + d)
of_dist x y h = omega (arith, sub_z x y, abs_z (x -ℤ y))

-- a test's flag
pub flags_differ : {A : Type 0} → true ≡ false → A
flags_differ e = let z : ◌≡◌ {A = ℕ} 0 1 = cc in absurd (omega arith)

pub lt_z_true : (x y : ℤ) → lt_z x y ≡ true → up x + dn y < up y + dn x
lt_z_true (pos a) (pos b) e = omega (arith, ltb-true a b e)
lt_z_true (pos a) (negsuc b) e = flags_differ (sym e)
lt_z_true (negsuc a) (pos b) e = omega arith
lt_z_true (negsuc a) (negsuc b) e = omega (arith, ltb-true b a e)

pub lt_z_false : (x y : ℤ) → lt_z x y ≡ false → up y + dn x ≤ up x + dn y
lt_z_false (pos a) (pos b) e = omega (arith, ltb-false a b e)
lt_z_false (pos a) (negsuc b) e = omega arith
lt_z_false (negsuc a) (pos b) e = flags_differ e
lt_z_false (negsuc a) (negsuc b) e = omega (arith, ltb-false b a e)
