-- The laws of G.3: what its constants make, distance and range. Assumes nothing.
use mathlib.Core.Path.{◌≡◌, refl, sym, ap, ap₂, ◌∙◌}
use mathlib.Core.List.{List}
use Prim.Native.Nat.{ℕ, ◌+◌, ◌-◌, ◌/◌, ◌^◌, ◌≤◌, ◌<◌, min}
use native.Mathlib.Nat.{div-eq_of_lt, le-div_iff_mul-le, div-mul-le_self}
use native.Mathlib.Numerals.{add-one}
use native.Mathlib.Omega.{arith}
use lib.IntN.{ℤ, pos, negsuc, ◌+ℤ◌, +ℤ_assoc}
use lib.ListN.{length, get_or, set}
use lib.Pow.{pow_pos, pow_mono}
use Rattle.whole.specs.Numbers.{ceil_div, Within, Near}
use Rattle.whole.specs.declared.Kind.{Kind}
use Rattle.whole.specs.declared.Kind.TheVariants.{Samples, Numbers}
use Rattle.whole.proofs.Linear.{of_dist}
use Rattle.whole.proofs.Passes.{mapped, mapped_step}
use Rattle.whole.proofs.Within.{within_refl, within_le, within_add, within_shr}
use Rattle.output.specs.Linear.{levelled, rescaled, clamp, sample, distance, output_of, Precisions}
use Rattle.output.specs.Constants.{scale_of, by_scale, output_by_scale, Usable}

-- ---- document 01, distance rules 4 and 5

clamp_near : (m e : ℕ) (x y : ℤ) → Within e x y → Near (min e m) (clamp m x) (clamp m y)
clamp_near m e (pos a) (pos b) h = omega (arith, of_dist (pos a) (pos b) h.within)
clamp_near m e (pos a) (negsuc b) h = omega (arith, of_dist (pos a) (negsuc b) h.within)
clamp_near m e (negsuc a) (pos b) h = omega (arith, of_dist (negsuc a) (pos b) h.within)
clamp_near m e (negsuc a) (negsuc b) h = omega arith

-- values that differ by at most e give samples that differ by at most e's distance
pub sample_near : (Bw B : ℕ) {e : ℕ} {x y : ℤ} → Within e x y → Near (distance Bw B e) (sample Bw B x) (sample Bw B y)
unfolding sample distance
sample_near Bw B {e} {x} {y} h =
    let ζ : ℕ = Bw - B in
    let moved : Within e (levelled Bw x +ℤ pos (2 ^ ζ / 2)) (levelled Bw y +ℤ pos (2 ^ ζ / 2)) =
    within_le (within_add (within_add h (within_refl (pos (2 ^ Bw / 2)))) (within_refl (pos (2 ^ ζ / 2)))) (omega arith) in
    clamp_near (2 ^ B - 1) _ _ _ (within_shr (2 ^ ζ) (pow_pos ζ) moved)

-- where nothing is lost before the output step, nothing is lost by it
pub distance_exact : (Bw B : ℕ) → distance Bw B 0 ≡ 0
unfolding distance
distance_exact Bw B = omega (arith, div-eq_of_lt (none (2 ^ (Bw - B)) (pow_pos (Bw - B))))
  where
    none : (m : ℕ) → 0 < m → 0 + (m - 1) < m
    none m h = omega arith

ceil_grows : (m : ℕ) {d e : ℕ} → 0 < m → d ≤ e → ceil_div d m ≤ ceil_div e m
ceil_grows m {d} h l = (le-div_iff_mul-le h).1 (omega (arith, div-mul-le_self (d + (m - 1)) m))

-- a larger number has a larger distance
pub distance_grows : (Bw B : ℕ) {d e : ℕ} → d ≤ e → distance Bw B d ≤ distance Bw B e
unfolding distance
distance_grows Bw B l = omega (arith, ceil_grows (2 ^ (Bw - B)) (pow_pos (Bw - B)) l)

-- ---- samples have B bits

clamp_most : (m : ℕ) (v : ℤ) → clamp m v ≤ m
clamp_most m (pos n) = omega arith
clamp_most m (negsuc n) = omega arith

pub sample_below : (Bw B : ℕ) (v : ℤ) → sample Bw B v < 2 ^ B
unfolding sample
sample_below Bw B v = omega (arith, clamp_most (2 ^ B - 1) (rescaled (Bw - B) (levelled Bw v)), pow_pos B)

-- ---- the constants

by_scale_lem : (Bw B : ℕ) (v : ℤ) → by_scale (scale_of Bw B) v ≡ sample Bw B v
unfolding sample
by_scale_lem Bw B v = rw (+ℤ_assoc v (pos (2 ^ Bw / 2)) (pos (2 ^ (Bw - B) / 2)))

pub output_by_scale_lem : (kind : Kind) (Bw B : ℕ) (v : ℤ) → output_by_scale kind (scale_of Bw B) v ≡ output_of kind Bw B v
unfolding distance
output_by_scale_lem Samples Bw B v = by_scale_lem Bw B v
output_by_scale_lem Numbers Bw B v = refl

pub usable : {Bw B : ℕ} → Precisions Bw B → Usable (scale_of Bw B)
usable {Bw} {B} h = record {
  lift = omega (arith, pow_mono {i = Bw} {j = 20} h.wide, pow_mono {i = Bw - B} {j = 20} (omega arith));
  shift = omega arith;
  top = omega (arith, pow_mono {i = B} {j = 16} h.most, pow_pos B);
}

-- ---- a loop that writes g's value over each element: a turn, as its code leaves the list
pub pass_goes : {A : Type 0} (g : ℕ → A → A) (x : ℕ) (l : List A) (d : A) {now : List A} {z : A} → now ≡ mapped g x l → z ≡ g x (get_or l x d)
    → x < length l → set now x z ≡ mapped g (x + 1) l
pass_goes {A} g x l d e made h =
    ap₂ (λ (l : List A) (z : A). set l x z) e made ∙ mapped_step g x l d h ∙ ap (λ (n : ℕ). mapped g n l) (sym (add-one x))
