-- Which samples depend on a lost coefficient, by the form of Tables E.6 and F.2 and not by value; and marks as they are written.
use Rattle.std.specs.Prelude.{Bool, cond, List, ℕ, ℤ, nat_abs}
use Rattle.wavelet.specs.Marks.{touched, marked}
use Rattle.colour.specs.Table.{coloured_mark}
use Rattle.output.specs.Linear.{lost_distance}
use Rattle.layout.specs.declared.Shape.{Shape}
use Rattle.planes.specs.Values.{Bands, Values, filtered, in_planes}
use Rattle.planes.specs.Places.{values_in}

-- the values before Annex F that depend on a coefficient that is lost
abbrev pub touched_by : Shape → Bands Bool → Values Bool
touched_by s lost = filtered touched s lost

-- document 02, C-15: the sample 'depends on a lost coefficient, directly or through Annex E's filters or the colour transform'
unfoldable pub mark_of : Shape → ℕ → Bands Bool → Values Bool
mark_of s Cpih lost i x y = coloured_mark Cpih (λ j. touched_by s lost j x y) i

-- a mark is 1 or 0
abbrev pub bit : Bool → ℕ
bit b = cond b 1 0

-- in the work cells a mark is a number that is not 0
abbrev pub cell_mark : ℤ → ℕ
cell_mark z = bit (marked (nat_abs z))

abbrev pub marks_in : Shape → List ℤ → Values ℕ
marks_in s l i x y = cell_mark (values_in s l i x y)

-- what the marks of the samples make of their distances, with each component's precision: both stand as samples do
abbrev pub marked_distances : Shape → (ℕ → ℕ) → List ℕ → List ℕ → Values ℕ
marked_distances s B marks out i x y = lost_distance (B i) (in_planes s marks i x y) (in_planes s out i x y)
