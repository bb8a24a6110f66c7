-- The steps of numbers in whole numbers are those over naturals, and so is the transform: what `inverse` of numbers leaves is document 01's rule 2, place by
-- place. Assumes nothing.
use mathlib.Core.Path.{◌≡◌, ◌∙◌}
use mathlib.Core.List.{List}
use Prim.Native.Nat.{ℕ, ◌<◌}
use lib.IntN.{ℤ, pos}
use Rattle.whole.specs.declared.Kind.{Kind}
use Rattle.whole.specs.declared.Kind.TheVariants.{Samples, Numbers}
use Rattle.wavelet.specs.Kinds.{rises, steps_of, ValuesWithin, Inverted}
use Rattle.wavelet.specs.Transform.{Kind as FilterType, Band, inverse}
use Rattle.wavelet.specs.Bands.{Coefficient, Decomposed}
use Rattle.wavelet.specs.Places.{sample_at, bands, TransformedBy}
use Rattle.wavelet.specs.Numbers.{number_at, NumbersWithin, Numbered}
use Rattle.wavelet.specs.Grids.{SamplesWithin}
use Rattle.wavelet.specs.Distance.{numbers}
use Rattle.wavelet.proofs.Related.{Keeps}
use Rattle.wavelet.proofs.Transforms.{inverse_keeps}
use Rattle.wavelet.proofs.Components.{placed}

rising : Keeps rises numbers numbers (λ z n _. z ≡ pos n)
unfolding rises numbers
rising = record { at_even = λ p q s. rw (p, q, s); at_odd = λ p q s. rw (p, q, s); of_even = λ p. p }

pub inverse_rising : {W H Nx Ny : ℕ} → Decomposed W H Nx Ny → (T : FilterType → ℕ → ℕ → Band ℤ) (N : FilterType → ℕ → ℕ → Band ℕ)
    → ((k : FilterType) (dx dy x y : ℕ) → Coefficient W H Nx Ny k dx dy x y → T k dx dy x y ≡ pos (N k dx dy x y))
    → (x y : ℕ) → x < W → y < H → inverse rises W H Nx Ny T x y ≡ pos (inverse numbers W H Nx Ny N x y)
inverse_rising parts T N = inverse_keeps rising parts T N N

-- values of either kind are small
pub samples_within : {w h B : ℕ} {l : List ℤ} (kind : Kind) → ValuesWithin kind w h B l → SamplesWithin w h B l
samples_within Samples v = v
samples_within Numbers n = record { most = λ c r hc hr. n.most c r hc hr }

module _ {w h nx ny : ℕ} (parts : Decomposed w h nx ny) {l l' : List ℤ} where
  numbers_made : {B : ℕ} → NumbersWithin w h B l → TransformedBy rises w h nx ny l l' → Numbered w h nx ny l l'
  numbers_made n t = record {
    same = t.same;
    made = λ x y hx hy. t.made x y hx hy
        ∙ inverse_rising parts (bands (sample_at w l)) (bands (number_at w l)) (λ k dx dy u v i. n.number _ _ (placed i).0 (placed i).1) x y hx hy;
  }

  -- what a kind's steps leave
  pub inverted : (kind : Kind) (B : ℕ) → ValuesWithin kind w h B l → TransformedBy (steps_of kind) w h nx ny l l' → Inverted kind w h nx ny l l'
  inverted Samples B v t = t
  inverted Numbers B n t = numbers_made n t
