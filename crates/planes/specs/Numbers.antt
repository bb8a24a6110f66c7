-- Document 01's distance rule, place by place: distance numbers go the way of the values that they belong to, rules 2 to 5 from a number for each coefficient to a
-- distance for each sample. And the numbers as the work cells hold them.
use Rattle.std.specs.Prelude.{◌≡◌, List, ℕ, ◌<◌, ℤ, pos, nat_abs}
use Rattle.whole.specs.declared.Kind.{Kind}
use Rattle.whole.specs.declared.Kind.TheVariants.{Samples, Numbers}
use Rattle.wavelet.specs.Distance.{numbers}
use Rattle.wavelet.specs.Places.{bands}
use Rattle.colour.specs.Table.{coloured_number}
use Rattle.output.specs.Linear.{distance}
use Rattle.layout.specs.declared.Shape.{Shape}
use Rattle.layout.specs.Bands.{Wc, Hc}
use Rattle.planes.specs.Values.{Bands, Values, filtered, transformed, coloured, sampled}
use Rattle.planes.specs.Places.{values_in, coefficients_in, Inside}

-- rule 2: a value's number, from a number for each coefficient
abbrev pub numbered : Shape → Bands ℕ → Values ℕ
numbered s N = filtered numbers s N

-- rule 3
abbrev pub coloured_numbers : ℕ → Values ℕ → Values ℕ
coloured_numbers Cpih n i x y = coloured_number Cpih (λ j. n j x y) i

-- both
abbrev pub numbers_of : Shape → ℕ → Bands ℕ → Values ℕ
numbers_of s Cpih N = coloured_numbers Cpih (numbered s N)

-- rules 4 and 5, with each component's precision
unfoldable pub measured : ℕ → (ℕ → ℕ) → Values ℕ → Values ℕ
measured Bw B n i x y = distance Bw (B i) (n i x y)

-- the whole way, as `samples_of` goes it
abbrev pub distances_at : Shape → ℕ → ℕ → (ℕ → ℕ) → Bands ℕ → Values ℕ
distances_at s Cpih Bw B N = measured Bw B (numbers_of s Cpih N)

-- ---- in the work cells

-- numbers as cells hold them, and the numbers that cells hold
abbrev pub held : Values ℕ → Values ℤ
held n i x y = pos (n i x y)

abbrev pub sizes : Values ℤ → Values ℕ
sizes v i x y = nat_abs (v i x y)

-- each where the value that it belongs to will be
abbrev pub numbers_in : Shape → List ℤ → Bands ℕ
numbers_in s l i = bands (sizes (values_in s l) i)

-- the cells hold no other, of one component and of all
pub record NumbersOne (s : Shape) (i : ℕ) (l : List ℤ) : Type 0 where
  pub number : (x y : ℕ) → x < Wc s i → y < Hc s i → values_in s l i x y ≡ pos (nat_abs (values_in s l i x y))

pub record HoldingNumbers (s : Shape) (l : List ℤ) : Type 0 where
  pub number : (i x y : ℕ) → Inside s i x y → values_in s l i x y ≡ pos (nat_abs (values_in s l i x y))

-- ---- what the annexes make of each kind of value

-- Annex E, of what stands in the work cells
abbrev pub filtered_of : Kind → Shape → List ℤ → Values ℤ
filtered_of Samples s l = transformed s (coefficients_in s l)
filtered_of Numbers s l = held (numbered s (numbers_in s l))

-- Annex F
abbrev pub coloured_of : Kind → ℕ → Values ℤ → Values ℤ
coloured_of Samples Cpih v = coloured Cpih v
coloured_of Numbers Cpih v = held (coloured_numbers Cpih (sizes v))

-- Annex G, with each component's precision
abbrev pub outputs_of : Kind → ℕ → (ℕ → ℕ) → Values ℤ → Values ℕ
outputs_of Samples Bw B v = sampled Bw B v
outputs_of Numbers Bw B v = measured Bw B (sizes v)
