-- What a spoilt slice leaves in the cells. Document 02, C-15: it 'sets that slice's coefficients to 0'. In each component a slice has whole rows of cells
-- (`slice_of_row`), so a coefficient is lost with its row.
use Rattle.std.specs.Prelude.{Bool, cond, ◌&&◌, List, ℕ, zero, suc, ◌+◌, ◌-◌, ◌/◌, leb, ltb, eqb, ℤ, pos, negsuc}
use Rattle.whole.specs.Cells.{map_at}
use Rattle.layout.specs.declared.Shape.{Shape}
use Rattle.layout.specs.Bands.{Wc}
use Rattle.layout.specs.Cells.{area, start}
use Rattle.layout.specs.Slices.{slice_of_row}

-- what stands in the count cell of a lost coefficient, and nowhere else: the cells remember by it what is lost
abbrev pub lost_count : ℤ
lost_count = negsuc 0

module _ (s : Shape) (t : ℕ) where
  -- cell n is one of component i's coefficients, or counts, which stand row by row from `first` on, in a row of slice t
  abbrev pub in_slice : ℕ → ℕ → ℕ → Bool
  in_slice i first n = leb first n && (ltb n (first + area s i) && eqb (slice_of_row s i ((n - first) / Wc s i)) t)

  -- a lost coefficient is 0
  abbrev pub lost_cell : ℕ → ℕ → ℤ → ℤ
  lost_cell i n v = cond (in_slice i (start s i) n) (pos 0) (cond (in_slice i (start s i + area s i) n) lost_count v)

  -- of the components before i
  unfoldable pub lose_before : ℕ → List ℤ → List ℤ
  lose_before zero l = l
  lose_before (suc i) l = map_at (lost_cell i) (lose_before i l)

  abbrev pub lose : List ℤ → List ℤ
  lose l = lose_before s.nc l
