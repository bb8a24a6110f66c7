-- What the code asks of a kind's steps, and that each kind has it. Whatever is proved of a run, a level or a transform is proved of any steps that are
-- so. Assumes nothing.
use mathlib.Core.Path.{◌≡◌, ap}
use Prim.Native.Nat.{ℕ, ◌+◌, ◌*◌, ◌%◌, ◌≤◌, ◌<◌}
use native.Mathlib.Nat.{le_trans}
use native.Mathlib.Omega.{arith}
use lib.IntN.{ℤ, pos, nat_abs, ◌+ℤ◌, ◌-ℤ◌, +ℤ_comm}
use lib.Signed.{shr_z}
use Rattle.whole.specs.Numbers.{ceil_div, gap}
use Rattle.whole.specs.declared.Kind.{Kind}
use Rattle.whole.specs.declared.Kind.TheVariants.{Samples, Numbers}
use Rattle.wavelet.specs.Filter.{Steps, samples, filter}
use Rattle.wavelet.specs.Kinds.{rises, steps_of}
use Rattle.wavelet.specs.Distance.{numbers}
use Rattle.wavelet.specs.Runs.{right}
use Rattle.wavelet.proofs.Borders.{Even_handed, filter_even}
use Rattle.wavelet.proofs.Related.{Keeps}
use Rattle.wavelet.proofs.Within.{Nearing, Zeroed, distances, rise_distances, samples_zeroed, rises_zeroed, sizes_of, filter_size, joined_thrice}

-- a step takes its neighbours in either order, moves no further than document 01's rule says, and leaves 0 at 0
pub record Tame (S : Steps ℤ) : Type 0 where
  pub handed : Even_handed S
  pub near : Nearing S
  pub zeroed : Zeroed S

tame_samples : Tame samples
unfolding samples
tame_samples = record {
  handed = record { swap = λ x l r. ap (λ (s : ℤ). x -ℤ shr_z (s +ℤ pos 2) 4) (+ℤ_comm l r) };
  near = distances;
  zeroed = samples_zeroed;
}

tame_rises : Tame rises
unfolding rises
tame_rises = record {
  handed = record { swap = λ x l r. ap (λ (s : ℤ). x +ℤ shr_z (s +ℤ pos 3) 4) (+ℤ_comm l r) };
  near = rise_distances;
  zeroed = rises_zeroed;
}

pub tame : (kind : Kind) → Tame (steps_of kind)
tame Samples = tame_samples
tame Numbers = tame_rises

-- ---- how large values become

module _ {S : Steps ℤ} (T : Tame S) where
  pub tame_sizes : Keeps S numbers numbers (λ x n _. nat_abs x ≤ n)
  tame_sizes = sizes_of T.near T.zeroed

  module _ (x l r : ℤ) {a b c : ℕ} (hx : nat_abs x ≤ a) (hl : nat_abs l ≤ b) (hr : nat_abs r ≤ c) where
    even_most : nat_abs (S.even x l r) ≤ a + ceil_div (b + c) 4
    unfolding numbers
    even_most = tame_sizes.at_even {x' = a} {l' = b} {r' = c} {x'' = a} {l'' = b} {r'' = c} hx hl hr

  -- an even value is at most twice as large as what it is made of
  pub even_size : (x l r : ℤ) {B : ℕ} → 2 ≤ B → nat_abs x ≤ B → nat_abs l ≤ B → nat_abs r ≤ B → nat_abs (S.even x l r) ≤ 2 * B
  even_size x l r two hx hl hr = omega (arith, even_most x l r hx hl hr)

  module _ (Z : ℕ) (two : 2 ≤ Z) (X : ℕ → ℤ) {B : ℕ} (most : (i : ℕ) → i < Z → nat_abs (X i) ≤ B) where
    pub filter_even_size : 2 ≤ B → (i : ℕ) → i < Z → i % 2 ≡ 0 → nat_abs (filter S Z X i) ≤ 2 * B
    filter_even_size some i h e =
        rw (filter_even S Z two X i h e) (even_size (X i) (X (gap i 1)) (X (right Z i)) some (most i h) (most (gap i 1) (omega arith)) (most (right Z i) (omega arith)))

    -- a line's values grow by three at most
    pub thrice : (i : ℕ) → i < Z → nat_abs (filter S Z X i) ≤ 3 * B
    thrice i h = le_trans (filter_size Z two tame_sizes X (λ k l _. most k l) (λ k l _. most k l) i h) (joined_thrice B)
