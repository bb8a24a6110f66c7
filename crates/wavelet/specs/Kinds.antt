-- What Annex E's code does with each kind of value. A kind is its two steps over whole numbers; whatever is said of a transform is said of any `Steps`, so that a
-- further kind is one line more here.
use Rattle.std.specs.Prelude.{List, ℕ, ℤ, pos, ◌+ℤ◌}
use Rattle.std.specs.Int.Signed.{shr_z}
use Rattle.whole.specs.declared.Kind.{Kind}
use Rattle.whole.specs.declared.Kind.TheVariants.{Samples, Numbers}
use Rattle.wavelet.specs.Filter.{Steps, samples}
use Rattle.wavelet.specs.Places.{Transformed}
use Rattle.wavelet.specs.Numbers.{NumbersWithin, Numbered}
use Rattle.wavelet.specs.Grids.{SamplesWithin}

-- distance numbers (Distance) as whole numbers, their ceilings by floors: ceil(n / 4) is floor((n + 3) / 4)
abbrev pub even_rise : ℤ → ℤ → ℤ → ℤ
even_rise x l r = x +ℤ shr_z (l +ℤ r +ℤ pos 3) 4

abbrev pub odd_rise : ℤ → ℤ → ℤ → ℤ
odd_rise x l r = x +ℤ shr_z (l +ℤ r +ℤ pos 1) 2

unfoldable pub rises : Steps ℤ
rises = record { even = even_rise; odd = odd_rise }

abbrev pub steps_of : Kind → Steps ℤ
steps_of Samples = samples
steps_of Numbers = rises

-- ---- what the transform asks of the cells of a component, and what it leaves in them

-- values of the kind, of at most B in size
abbrev pub ValuesWithin : Kind → ℕ → ℕ → ℕ → List ℤ → Type 0
ValuesWithin Samples = SamplesWithin
ValuesWithin Numbers = NumbersWithin

-- Annex E's samples, or document 01's numbers
abbrev pub Inverted : Kind → ℕ → ℕ → ℕ → ℕ → List ℤ → List ℤ → Type 0
Inverted Samples = Transformed
Inverted Numbers = Numbered
