-- Document 01's distance rule at a step, at a filter and at a band: what the two samples may differ by, and how large one sample may be. Assumes nothing.
use mathlib.Core.Path.{◌≡◌, refl}
use Prim.Native.Nat.{ℕ, ◌+◌, ◌*◌, ◌%◌, ◌≤◌, ◌<◌}
use native.Mathlib.Nat.{le_trans, le_refl}
use native.Mathlib.Omega.{arith}
use lib.IntN.{ℤ, pos, nat_abs, ◌+ℤ◌}
use lib.Signed.{shr_z}
use Rattle.whole.specs.Numbers.{ceil_div, Within}
use Rattle.whole.proofs.Within.{within_refl, within_le, within_add, within_sub, within_shr, within_of_size, size_of_within}
use Rattle.wavelet.specs.Filter.{Steps, filter, even_step, odd_step, samples}
use Rattle.wavelet.specs.Kinds.{even_rise, odd_rise, rises}
use Rattle.wavelet.specs.Distance.{numbers, joined}
use Rattle.wavelet.proofs.Related.{Joins, Keeps, filter_keeps}

-- ---- the two steps

-- what either adds or takes away: the neighbours' sum and a constant, over m
module _ {l r : ℕ} {u u' w w' : ℤ} (q : Within l u u') (s : Within r w w') where
  shifted_within : (c m : ℕ) → 0 < m → Within (ceil_div (l + r) m) (shr_z (u +ℤ w +ℤ pos c) m) (shr_z (u' +ℤ w' +ℤ pos c) m)
  shifted_within c m up = within_shr m up (within_le (within_add (within_add q s) (within_refl (pos c))) (omega arith))

  module _ {n : ℕ} {x x' : ℤ} (p : Within n x x') where
    -- an even sample: its low number and ceil((its two highs) / 4)
    pub even_within : Within (n + ceil_div (l + r) 4) (even_step x u w) (even_step x' u' w')
    even_within = within_sub p (shifted_within 2 4 (omega arith))

    -- an odd sample: its high number and ceil((its two evens) / 2)
    pub odd_within : Within (n + ceil_div (l + r) 2) (odd_step x u w) (odd_step x' u' w')
    odd_within = within_add p (within_shr 2 (omega arith) (within_add q s))

    -- and the same of numbers in whole numbers
    pub even_rise_within : Within (n + ceil_div (l + r) 4) (even_rise x u w) (even_rise x' u' w')
    even_rise_within = within_add p (shifted_within 3 4 (omega arith))

    pub odd_rise_within : Within (n + ceil_div (l + r) 2) (odd_rise x u w) (odd_rise x' u' w')
    odd_rise_within = within_add p (shifted_within 1 2 (omega arith))

-- ---- a filter

-- place by place, two values differ by at most the number there
abbrev pub Nearing : Steps ℤ → Type 0
Nearing S = Keeps S S numbers (λ x y n. Within n x y)

pub distances : Nearing samples
unfolding samples numbers
distances = record { at_even = λ p q s. even_within q s p; at_odd = λ p q s. odd_within q s p; of_even = λ h. h }

pub rise_distances : Nearing rises
unfolding rises numbers
rise_distances = record { at_even = λ p q s. even_rise_within q s p; at_odd = λ p q s. odd_rise_within q s p; of_even = λ h. h }

-- and a value is at most the number there in size, which is its distance from 0
pub record Zeroed (S : Steps ℤ) : Type 0 where
  pub even_zero : S.even (pos 0) (pos 0) (pos 0) ≡ pos 0
  pub odd_zero : S.odd (pos 0) (pos 0) (pos 0) ≡ pos 0

pub sizes_of : {S : Steps ℤ} → Nearing S → Zeroed S → Keeps S numbers numbers (λ x n _. nat_abs x ≤ n)
sizes_of {S} near zero =
    record {
      at_even = λ {x} {l} {r} p q s. size_of_within (rw zero.even_zero at (near.at_even (within_of_size x p) (within_of_size l q) (within_of_size r s)));
      at_odd = λ {x} {l} {r} p q s. size_of_within (rw zero.odd_zero at (near.at_odd (within_of_size x p) (within_of_size l q) (within_of_size r s)));
      of_even = λ h. h;
    }

pub samples_zeroed : Zeroed samples
unfolding samples
samples_zeroed = record { even_zero = refl; odd_zero = refl }

pub rises_zeroed : Zeroed rises
unfolding rises
rises_zeroed = record { even_zero = refl; odd_zero = refl }

pub sizes : Keeps samples numbers numbers (λ x n _. nat_abs x ≤ n)
sizes = sizes_of distances samples_zeroed

-- rule 2: where the low numbers are at most a and the high ones at most h, none is above the number of the two parts
pub joining : (a h : ℕ) → Joins numbers numbers numbers (λ n _ _. n ≤ a) (λ n _ _. n ≤ h) (λ n _ _. n ≤ a + ceil_div h 2) (λ n _ _. n ≤ joined a h)
unfolding numbers
joining a h = record { at_even = λ p q s. omega arith; at_odd = λ p q s. omega arith; of_even = λ p. omega arith }

-- ---- a line of Z samples, and so a row or a column of a band

module _ (Z : ℕ) (two : 2 ≤ Z) {a h : ℕ} where
  pub filter_joined : (N : ℕ → ℕ) → ((k : ℕ) → k < Z → k % 2 ≡ 0 → N k ≤ a) → ((k : ℕ) → k < Z → k % 2 ≡ 1 → N k ≤ h)
      → (i : ℕ) → i < Z → filter numbers Z N i ≤ joined a h
  filter_joined N = filter_keeps (joining a h) Z two N N N

  -- low-pass values of at most a in size and high-pass values of at most h
  pub filter_size : {S : Steps ℤ} → Keeps S numbers numbers (λ x n _. nat_abs x ≤ n)
      → (X : ℕ → ℤ) → ((k : ℕ) → k < Z → k % 2 ≡ 0 → nat_abs (X k) ≤ a) → ((k : ℕ) → k < Z → k % 2 ≡ 1 → nat_abs (X k) ≤ h)
      → (i : ℕ) → i < Z → nat_abs (filter S Z X i) ≤ joined a h
  filter_size keeps X low high i inside = le_trans (filter_keeps keeps Z two X size size own own i inside) (filter_joined size low high i inside)
    where
      size : ℕ → ℕ
      size k = nat_abs (X k)

      own : {b : ℕ} (k : ℕ) → k < Z → k % 2 ≡ b → nat_abs (X k) ≤ size k
      own k _ _ = le_refl (nat_abs (X k))

-- parts of at most b make at most 3 b: a factor for each filter, where a cell must hold what it makes
pub joined_thrice : (b : ℕ) → joined b b ≤ 3 * b
joined_thrice b = omega arith
