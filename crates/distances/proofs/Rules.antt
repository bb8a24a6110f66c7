-- Rules 3 to 5, and what the layers above cite of the whole rule. Assumes nothing.
use mathlib.Core.Path.{◌≡◌, refl, ap, ◌∙◌}
use mathlib.Core.Bool.{cond}
use mathlib.Core.List.{List}
use Prim.Native.Nat.{ℕ, ◌*◌, ◌-◌, ◌^◌, ◌≤◌, ◌<◌}
use native.Mathlib.Decide.{dec_lt}
use native.Mathlib.Omega.{arith}
use borrow.Author.Tests.{lt-ltb, le-ltb}
use lib.Dec.{ltb}
use lib.ListN.{get_or}
use lib.Pow.{pow_mono}
use Rattle.whole.specs.Cells.{listed}
use Rattle.whole.proofs.Lists.{listed_at, listed_past, listed_same}
use Rattle.quantiser.specs.Distance.{band_number}
use Rattle.quantiser.proofs.Laws.{band_zero}
use Rattle.wavelet.proofs.Components.{component_exact}
use Rattle.colour.proofs.Table.{number_same, number_most}
use Rattle.output.specs.Linear.{distance}
use Rattle.output.proofs.Laws.{distance_exact}
use Rattle.layout.specs.declared.Shape.{Shape}
use Rattle.layout.specs.Bands.{N'x, N'y, band}
use Rattle.layout.specs.Built.{Built}
use Rattle.distances.specs.Rule.{type_of, number_of, component_number_of, coloured_number, distance_of, of_four, distances_of, Stated}
use Rattle.distances.specs.Steps.{Numbered, EachBelow}
use Rattle.distances.proofs.Bounds.{component_small}

-- ---- rule 3

-- it reads the numbers of the components that there are
pub coloured_same : (Cpih nc : ℕ) → (Cpih ≡ 1 → 3 ≤ nc) → (e e' : ℕ → ℕ) → ((j : ℕ) → j < nc → e j ≡ e' j)
    → (i : ℕ) → i < nc → coloured_number Cpih e i ≡ coloured_number Cpih e' i
coloured_same Cpih nc three e e' same i h = number_same Cpih e e' (λ p j b. same j (omega (arith, three p))) i (same i h)

-- numbers of at most B become numbers of at most 3 B
pub coloured_most : (Cpih B : ℕ) (e : ℕ → ℕ) → ((j : ℕ) → e j ≤ B) → (i : ℕ) → coloured_number Cpih e i ≤ 3 * B
coloured_most Cpih B e most i = number_most Cpih B e (λ _ j _. most j) i (most i)

-- ---- numbers of four components

module _ (nc : ℕ) (f : ℕ → ℕ) where
  pub four_at : (i : ℕ) → i < nc → nc ≤ 4 → get_or (of_four nc f) i 0 ≡ f i
  four_at i h few = listed_at 4 _ 0 i (omega arith) ∙ rw (lt-ltb i nc h) refl

  pub four_none : (i : ℕ) → nc ≤ i → get_or (of_four nc f) i 0 ≡ 0
  four_none i h = by (dec_lt i 4)
    where
      by : Dec (i < 4) → get_or (of_four nc f) i 0 ≡ 0
      by (yes l) = listed_at 4 _ 0 i l ∙ rw (le-ltb i nc h) refl
      by (no n) = listed_past 4 _ 0 i (omega arith)

  -- what holds of 0 and of each component's number holds of each entry
  pub four_each : (P : ℕ → ℕ → Type 0) → nc ≤ 4 → ((i : ℕ) → P i 0) → ((i : ℕ) → i < nc → P i (f i)) → (i : ℕ) → P i (get_or (of_four nc f) i 0)
  four_each P few none some i = by (dec_lt i nc)
    where
      by : Dec (i < nc) → P i (get_or (of_four nc f) i 0)
      by (yes h) = rw (four_at i h few) (some i h)
      by (no n) = rw (four_none i (omega arith)) (none i)

pub four_same : (nc : ℕ) (f g : ℕ → ℕ) → ((i : ℕ) → i < 4 → i < nc → f i ≡ g i) → of_four nc f ≡ of_four nc g
four_same nc f g same = listed_same 4 (λ i. cond (ltb i nc) (f i) 0) (λ i. cond (ltb i nc) (g i) 0) (λ i h. by i h (dec_lt i nc))
  where
    by : (i : ℕ) → i < 4 → Dec (i < nc) → cond (ltb i nc) (f i) 0 ≡ cond (ltb i nc) (g i) 0
    by i h (yes l) = ap (λ (n : ℕ). cond (ltb i nc) n 0) (same i h l)
    by i h (no n) = rw (le-ltb i nc (omega arith))

-- ---- what is computed is the rule

module _ {s : Shape} {Fq Cpih Bw : ℕ} {B tops : List ℕ} (known : Stated s Fq Cpih Bw B tops) where
  pub numbered : Numbered s Fq tops
  numbered = record { built = known.built; fq = known.fq; few = known.few }

  -- e₀ and e are what rule 2 and rule 3 leave
  module _ {e₀ : List ℕ} (two : e₀ ≡ of_four s.nc (component_number_of s Fq tops)) where
    pub numbers_below : EachBelow (2 ^ 52) e₀
    numbers_below =
        let small = four_each s.nc (component_number_of s Fq tops) (λ _ n. n < 2 ^ 52) known.built.few (λ i. omega arith) (λ i _. omega (arith, component_small numbered i)) in
        record { below = rw two small }

    module _ {e : List ℕ} (three : e ≡ listed 4 (coloured_number Cpih (λ j. get_or e₀ j 0))) where
      entry : (i : ℕ) → i < 4 → get_or e i 0 ≡ coloured_number Cpih (λ j. get_or e₀ j 0) i
      entry i h = ap (λ (l : List ℕ). get_or l i 0) three ∙ listed_at 4 (coloured_number Cpih (λ j. get_or e₀ j 0)) 0 i h

      pub entry_below : (i : ℕ) → i < 4 → get_or e i 0 < 2 ^ 60
      entry_below i h = rw (entry i h) (omega (arith, coloured_most Cpih (2 ^ 52) (λ j. get_or e₀ j 0) (λ j. omega (arith, numbers_below.below j)) i))

      pub distances_made : of_four s.nc (λ i. distance Bw (get_or B i 0) (get_or e i 0)) ≡ distances_of s Fq Cpih Bw (λ j. get_or B j 0) tops
      unfolding distance_of
      distances_made =
          four_same s.nc (λ i. distance Bw (get_or B i 0) (get_or e i 0)) (distance_of s Fq Cpih Bw (λ j. get_or B j 0) tops)
          (λ i h l. ap (distance Bw (get_or B i 0)) (entry i h ∙ coloured_same Cpih s.nc known.colour (λ j. get_or e₀ j 0) (component_number_of s Fq tops) own i l))
        where
          own : (j : ℕ) → j < s.nc → get_or e₀ j 0 ≡ component_number_of s Fq tops j
          own j h = ap (λ (l : List ℕ). get_or l j 0) two ∙ four_at s.nc (component_number_of s Fq tops) j h known.built.few

-- ---- the whole rule

module _ (s : Shape) (Fq Cpih Bw : ℕ) (B : ℕ → ℕ) (tops : List ℕ) (few : s.nc ≤ 4) where
  -- an entry is its component's distance
  pub distance_at : (i : ℕ) → i < s.nc → get_or (distances_of s Fq Cpih Bw B tops) i 0 ≡ distance_of s Fq Cpih Bw B tops i
  distance_at i h = four_at s.nc (distance_of s Fq Cpih Bw B tops) i h few

  each_entry : (P : ℕ → ℕ → Type 0) → ((i : ℕ) → P i 0) → ((i : ℕ) → i < s.nc → P i (distance_of s Fq Cpih Bw B tops i))
      → (i : ℕ) → P i (get_or (distances_of s Fq Cpih Bw B tops) i 0)
  each_entry P = four_each s.nc (distance_of s Fq Cpih Bw B tops) P few

  -- rule 5
  pub distances_below : (i : ℕ) → get_or (distances_of s Fq Cpih Bw B tops) i 0 ≤ 2 ^ B i - 1
  unfolding distance_of distance
  distances_below = each_entry (λ i d. d ≤ 2 ^ B i - 1) (λ i. omega arith) (λ i _. omega arith)

  -- 16 bits hold each
  pub distances_small : ((i : ℕ) → i < s.nc → B i ≤ 16) → (i : ℕ) → get_or (distances_of s Fq Cpih Bw B tops) i 0 < 2 ^ 16
  distances_small sixteen =
      each_entry (λ _ d. d < 2 ^ 16) (λ i. omega arith)
      (λ i h. omega (arith, distance_at i h, distances_below i, pow_mono {i = B i} {j = 16} (sixteen i h)))

-- where no band is cut, every distance is 0
module _ (s : Shape) (Fq : ℕ) (tops : List ℕ) (built : Built s) (uncut : (b : ℕ) → get_or tops b 0 ≡ 0) where
  pub component_uncut : (i : ℕ) → component_number_of s Fq tops i ≡ 0
  unfolding component_number_of
  component_uncut i =
      component_exact (N'x s i) (N'y s i) (omega (arith, built.no_more)) (number_of s Fq tops i)
      (λ k dx dy has. ap (λ (T : ℕ). band_number T Fq) (uncut (band s (type_of s k dx) i)) ∙ band_zero Fq)

  pub distances_exact : (Cpih Bw : ℕ) (B : ℕ → ℕ) (i : ℕ) → get_or (distances_of s Fq Cpih Bw B tops) i 0 ≡ 0
  unfolding distance_of
  distances_exact Cpih Bw B =
      each_entry s Fq Cpih Bw B tops built.few (λ _ d. d ≡ 0) (λ _. refl) (λ i _. ap (distance Bw (B i)) (none i) ∙ distance_exact Bw (B i))
    where
      none : (i : ℕ) → coloured_number Cpih (component_number_of s Fq tops) i ≡ 0
      none i = omega (arith, coloured_most Cpih 0 (component_number_of s Fq tops) (λ j. omega (arith, component_uncut j)) i)
