-- Annex F at a place of the picture, and document 01's distance rule 3 for it. Assumes nothing.
use mathlib.Core.Path.{◌≡◌, refl, sym, ap, ap₂, ◌∙◌}
use mathlib.Core.Logic.{◌≢◌}
use Prim.Native.Nat.{ℕ, zero, suc, ◌*◌, ◌≤◌, ◌<◌}
use native.Mathlib.Nat.{le_refl}
use native.Mathlib.Decide.{ℕ_discrete}
use native.Mathlib.Omega.{arith}
use borrow.Author.Tests.{ne_eqb}
use lib.IntN.{ℤ, pos, nat_abs}
use Rattle.whole.specs.Numbers.{ceil_div, Within}
use Rattle.whole.proofs.Within.{within_refl, within_zero, within_le, within_of_size, size_of_within}
use Rattle.colour.specs.Rct.{inverse_rct, numbers_rct, PixelsWithin}
use Rattle.colour.specs.Table.{coloured_number}
use Rattle.colour.proofs.Laws.{rct_within}
use Rattle.layout.specs.declared.Shape.{Shape}
use Rattle.layout.specs.Bands.{sx, sy, Wc, Hc}
use Rattle.layout.specs.Built.{Built}
use Rattle.layout.specs.Cells.{area}
use Rattle.planes.specs.Values.{Values, pixel_at, pixel_part, coloured}
use Rattle.planes.specs.Places.{Inside, Colours}

-- ---- Table F.1

pub coloured_none : {Cpih : ℕ} → Cpih ≢ 1 → (v : Values ℤ) (i x y : ℕ) → coloured Cpih v i x y ≡ v i x y
unfolding coloured
coloured_none {Cpih} n v i x y = rw (ne_eqb Cpih 1 n)

pub coloured_rct : {Cpih : ℕ} → Cpih ≡ 1 → (v : Values ℤ) (i x y : ℕ) → coloured Cpih v i x y ≡ pixel_part (inverse_rct (pixel_at v x y)) (v i x y) i
unfolding coloured
coloured_rct e v i x y = rw e

-- ---- the components of the reversible transform are of one size

module _ {s : Shape} (built : Built s) (full : (i : ℕ) → i < s.nc → sx s i ≡ 1) where
  pub same_width : (i : ℕ) → i < s.nc → Wc s i ≡ Wc s 0
  unfolding Wc
  same_width i h = ap (λ (n : ℕ). ceil_div s.wf n) (full i h ∙ sym (full 0 (omega arith)))

  one_down : (i : ℕ) → i < s.nc → sy s i ≡ 1
  one_down i h =
      let p = built.sampled i h in
      omega (arith, full i h, p.down, p.down_less)

  pub same_height : (i : ℕ) → i < s.nc → Hc s i ≡ Hc s 0
  unfolding Hc
  same_height i h = ap (λ (n : ℕ). ceil_div s.hf n) (one_down i h ∙ sym (one_down 0 (omega arith)))

  pub same_area : (i : ℕ) → i < s.nc → area s i ≡ area s 0
  unfolding area
  same_area i h = ap₂ (λ (m n : ℕ). m * n) (same_width i h) (same_height i h)

  -- so a place of one is a place of each
  pub same_place : {i x y : ℕ} → Inside s i x y → (k : ℕ) → k < s.nc → Inside s k x y
  same_place {i} {x} {y} p k h =
      record {
        component = h;
        column = omega (arith, p.column, same_width i p.component, same_width k h);
        row = omega (arith, p.row, same_height i p.component, same_height k h);
      }

-- ---- distance

-- the numbers e of the components before Annex F, and numbers n behind it that are no less than rule 3 makes them
pub record Behind (Cpih : ℕ) (e n : ℕ → ℕ) : Type 0 where
  pub none : Cpih ≢ 1 → (i : ℕ) → e i ≤ n i
  pub red : Cpih ≡ 1 → (numbers_rct (record { c0 = e 0; c1 = e 1; c2 = e 2 })).c0 ≤ n 0
  pub green : Cpih ≡ 1 → (numbers_rct (record { c0 = e 0; c1 = e 1; c2 = e 2 })).c1 ≤ n 1
  pub blue : Cpih ≡ 1 → (numbers_rct (record { c0 = e 0; c1 = e 1; c2 = e 2 })).c2 ≤ n 2
  pub rest : Cpih ≡ 1 → (i : ℕ) → e (suc (suc (suc i))) ≤ n (suc (suc (suc i)))

-- such are the numbers that rule 3 makes
pub behind : (Cpih : ℕ) (e : ℕ → ℕ) → Behind Cpih e (coloured_number Cpih e)
unfolding coloured_number
behind Cpih e =
    record {
      none = λ other i. rw (ne_eqb Cpih 1 other) (le_refl (e i));
      red = λ one. rw one (le_refl (numbers_rct (record { c0 = e 0; c1 = e 1; c2 = e 2 })).c0);
      green = λ one. rw one (le_refl (numbers_rct (record { c0 = e 0; c1 = e 1; c2 = e 2 })).c1);
      blue = λ one. rw one (le_refl (numbers_rct (record { c0 = e 0; c1 = e 1; c2 = e 2 })).c2);
      rest = λ one i. rw one (le_refl (e (suc (suc (suc i)))));
    }

module _ {s : Shape} {Cpih : ℕ} (built : Built s) (colours : Colours s Cpih) where
  -- values of a place that differ by at most e before Annex F differ by at most n behind it
  pub coloured_within : {e n : ℕ → ℕ} → Behind Cpih e n → (v w : Values ℤ) (i x y : ℕ) → Inside s i x y
      → ((k : ℕ) → Inside s k x y → Within (e k) (v k x y) (w k x y)) → Within (n i) (coloured Cpih v i x y) (coloured Cpih w i x y)
  coloured_within {e} {n} behind v w i x y p given = pick (ℕ_discrete Cpih 1)
    where
      near : Cpih ≡ 1 → (k : ℕ) → k < 3 → Within (e k) (v k x y) (w k x y)
      near one k h = given k (same_place built (colours.full one) p k (omega (arith, colours.three one)))

      pixels : Cpih ≡ 1 → PixelsWithin (numbers_rct (record { c0 = e 0; c1 = e 1; c2 = e 2 })) (inverse_rct (pixel_at v x y)) (inverse_rct (pixel_at w x y))
      pixels one = rct_within (record { c0 = near one 0 (omega arith); c1 = near one 1 (omega arith); c2 = near one 2 (omega arith) })

      parts : Cpih ≡ 1 → (i : ℕ) → Within (e i) (v i x y) (w i x y)
          → Within (n i) (pixel_part (inverse_rct (pixel_at v x y)) (v i x y) i) (pixel_part (inverse_rct (pixel_at w x y)) (w i x y) i)
      parts one zero h = within_le (pixels one).c0 (behind.red one)
      parts one (suc zero) h = within_le (pixels one).c1 (behind.green one)
      parts one (suc (suc zero)) h = within_le (pixels one).c2 (behind.blue one)
      parts one (suc (suc (suc i))) h = within_le h (behind.rest one i)

      pick : Dec (Cpih ≡ 1) → Within (n i) (coloured Cpih v i x y) (coloured Cpih w i x y)
      pick (yes one) = rw (coloured_rct one v i x y, coloured_rct one w i x y) (parts one i (given i p))
      pick (no other) = rw (coloured_none other v i x y, coloured_none other w i x y) (within_le (given i p) (behind.none other i))

  -- equal values stay equal
  pub coloured_same : (v w : Values ℤ) → ((i x y : ℕ) → Inside s i x y → v i x y ≡ w i x y)
      → (i x y : ℕ) → Inside s i x y → coloured Cpih v i x y ≡ coloured Cpih w i x y
  unfolding numbers_rct
  coloured_same v w given i x y p = within_zero (coloured_within exact v w i x y p (λ k q. rw (given k x y q) (within_refl (w k x y))))
    where
      exact : Behind Cpih (λ _. 0) (λ _. 0)
      exact = record { none = λ _ _. omega arith; red = λ _. omega arith; green = λ _. omega arith; blue = λ _. omega arith; rest = λ _ _. omega arith }

  -- a size is a distance from the picture of zeros, which Annex F leaves as it is
  pub coloured_size : {e n : ℕ → ℕ} → Behind Cpih e n → (v : Values ℤ) → ((i x y : ℕ) → Inside s i x y → nat_abs (v i x y) ≤ e i)
      → (i x y : ℕ) → Inside s i x y → nat_abs (coloured Cpih v i x y) ≤ n i
  unfolding inverse_rct
  coloured_size {e} {n} behind v given i x y p =
      size_of_within
      (rw (zeros (ℕ_discrete Cpih 1)) at (coloured_within behind v (λ _ _ _. pos 0) i x y p (λ k q. within_of_size (v k x y) (given k x y q))))
    where
      part_zero : (i : ℕ) → pixel_part (inverse_rct (pixel_at (λ _ _ _. pos 0) x y)) (pos 0) i ≡ pos 0
      part_zero zero = refl
      part_zero (suc zero) = refl
      part_zero (suc (suc zero)) = refl
      part_zero (suc (suc (suc i))) = refl

      zeros : Dec (Cpih ≡ 1) → coloured Cpih (λ _ _ _. pos 0) i x y ≡ pos 0
      zeros (yes one) = coloured_rct one (λ _ _ _. pos 0) i x y ∙ part_zero i
      zeros (no other) = coloured_none other (λ _ _ _. pos 0) i x y
