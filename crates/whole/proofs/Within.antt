-- Whole numbers that differ by at most e, through sums, products, floors and rules on sizes. A size is a distance from 0, so the same laws
-- bound sizes. Assumes nothing.
use mathlib.Core.Path.{◌≡◌, refl, sym, ap, ◌∙◌}
use mathlib.Core.Bool.{Bool, true, false}
use Prim.Native.Nat.{ℕ, zero, suc, ◌+◌, ◌*◌, ◌≤◌, ◌<◌}
use native.Mathlib.Nat.{le_trans, add-mul, mul-add, mul-le-mul_right}
use native.Mathlib.Omega.{arith}
use lib.IntN.{ℤ, pos, negsuc, neg_ℤ, nat_abs, ◌+ℤ◌, ◌-ℤ◌, ◌*ℤ◌}
use lib.Signed.{shr_z}
use Rattle.whole.specs.Numbers.{by_size, signed, Within, ceil_div}
use Rattle.whole.proofs.Linear.{up, dn, add_z, neg_z, sub_z, mul_z, shr_b, ceil_step, eq_z, abs_z, to_abs, to_dist, of_dist}

pub within_refl : (x : ℤ) → Within 0 x x
within_refl x = record { within = to_dist x x 0 (omega arith) }

pub within_zero : {x y : ℤ} → Within 0 x y → x ≡ y
within_zero {x} {y} h = eq_z x y (omega (arith, of_dist x y h.within))

pub within_le : {d e : ℕ} {x y : ℤ} → Within d x y → d ≤ e → Within e x y
within_le h l = record { within = le_trans h.within l }

pub within_swap : {e : ℕ} {x y : ℤ} → Within e x y → Within e y x
within_swap {e} {x} {y} h = record { within = to_dist y x e (omega (arith, of_dist x y h.within)) }

-- ---- sums, products and floors

module _ {d e : ℕ} {x y u w : ℤ} (h : Within d x y) (k : Within e u w) where
  pub within_add : Within (d + e) (x +ℤ u) (y +ℤ w)
  within_add =
      record { within = to_dist (x +ℤ u) (y +ℤ w) (d + e) (omega (arith, add_z x u, add_z y w, of_dist x y h.within, of_dist u w k.within)) }

  pub within_sub : Within (d + e) (x -ℤ u) (y -ℤ w)
  within_sub =
      record { within = to_dist (x -ℤ u) (y -ℤ w) (d + e) (omega (arith, sub_z x u, sub_z y w, of_dist x y h.within, of_dist u w k.within)) }

pub within_mul : {e : ℕ} {x y : ℤ} (m : ℕ) → Within e x y → Within (e * m) (x *ℤ pos m) (y *ℤ pos m)
within_mul {e} {x} {y} m h =
    record { within = to_dist (x *ℤ pos m) (y *ℤ pos m) (e * m) (omega (arith, mul_z x m, mul_z y m, one x y (of_dist x y h.within).0, one y x (of_dist x y h.within).1)) }
  where
    one : (x y : ℤ) → up x + dn y ≤ up y + dn x + e → up x * m + dn y * m ≤ up y * m + dn x * m + e * m
    one x y k = omega (arith, mul-le-mul_right m k, add-mul (up x) (dn y) m, add-mul (up y + dn x) e m, add-mul (up y) (dn x) m)

pub within_shr : {e : ℕ} {x y : ℤ} (m : ℕ) → 0 < m → Within e x y → Within (ceil_div e m) (shr_z x m) (shr_z y m)
within_shr {e} {x} {y} m h k =
    record { within = to_dist (shr_z x m) (shr_z y m) (ceil_div e m) (one x y (of_dist x y k.within).0, one y x (of_dist x y k.within).1) }
  where
    one : (x y : ℤ) → up x + dn y ≤ up y + dn x + e → up (shr_z x m) + dn (shr_z y m) ≤ up (shr_z y m) + dn (shr_z x m) + ceil_div e m
    one x y k =
        ceil_step m h (up (shr_z x m) + dn (shr_z y m)) (up (shr_z y m) + dn (shr_z x m)) e
        (omega (arith, shr_b m h x, shr_b m h y, mul-add m (up (shr_z x m)) (dn (shr_z y m)), mul-add m (up (shr_z y m)) (dn (shr_z x m))))

-- ---- sizes: a distance from 0

pub within_of_size : {e : ℕ} (x : ℤ) → nat_abs x ≤ e → Within e x (pos 0)
within_of_size {e} x h = record { within = to_dist x (pos 0) e (omega (arith, abs_z x)) }

pub size_of_within : {e : ℕ} {x : ℤ} → Within e x (pos 0) → nat_abs x ≤ e
size_of_within {e} {x} h = to_abs x e (omega (arith, of_dist x (pos 0) h.within))

-- ---- a rule on sizes

-- a rule f from sizes to indices and a rule g back, with g 0 = 0: where g (f n) is within e of the size n, the whole number that comes back is within e
pub within_size : (f g : ℕ → ℕ) (e : ℕ) → g 0 ≡ 0 → (c : ℤ) → (nat_abs c ≤ g (f (nat_abs c)) + e) × (g (f (nat_abs c)) ≤ nat_abs c + e)
    → Within e c (by_size g (by_size f c))
within_size f g e z (pos n) h = record { within = to_dist (pos n) (pos (g (f n))) e (omega arith) }
within_size f g e z (negsuc n) h = back (f (suc n)) h
  where
    far : (s : ℕ) → (suc n ≤ s + e) × (s ≤ suc n + e) → Within e (negsuc n) (neg_ℤ (pos s))
    far s h = record { within = to_dist (negsuc n) (neg_ℤ (pos s)) e (omega (arith, neg_z (pos s))) }

    back : (v : ℕ) → (suc n ≤ g v + e) × (g v ≤ suc n + e) → Within e (negsuc n) (by_size g (neg_ℤ (pos v)))
    back zero h = record { within = to_dist (negsuc n) (pos (g 0)) e (omega arith) }
    back (suc v) h = far (g (suc v)) h

-- a sign bit and a size are an index: the rule at that index is the rule at the size, with the bit
pub signed_size : (g : ℕ → ℕ) → g 0 ≡ 0 → (s : Bool) (v : ℕ) → by_size g (signed s v) ≡ signed s (g v)
signed_size g z false v = refl
signed_size g z true zero = ap pos z ∙ ap (λ (n : ℕ). neg_ℤ (pos n)) (sym z)
signed_size g z true (suc v) = refl
