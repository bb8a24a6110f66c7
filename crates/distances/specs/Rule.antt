-- Document 01's distance rule, step by step. `tops` has the largest truncation position of each band b, over all precincts that hold one of its
-- coefficients, and 0 where there are none.
use Rattle.std.specs.Prelude.{◌≡◌, cond, List, ℕ, min, ◌≤◌, ◌<◌, ltb, get_or}
use Rattle.whole.specs.Cells.{listed}
use Rattle.quantiser.specs.Distance.{band_number}
use Rattle.wavelet.specs.Transform.{Kind}
use Rattle.wavelet.specs.Bands.{τx, τy}
use Rattle.wavelet.specs.Distance.{component_number}
use Rattle.output.specs.Linear.{distance, Precisions}
use Rattle.layout.specs.declared.Shape.{Shape}
use Rattle.layout.specs.Bands.{N'x, N'y, filter_type, band}
use Rattle.layout.specs.Built.{Built}
-- rule 3 is Annex F's
unfoldable pub use Rattle.colour.specs.Table.{coloured_number}

-- B.3: the filter type with these letters and this depth across. Its depth down is the same, and N_L,y where there are no more levels
abbrev pub type_of : Shape → Kind → ℕ → ℕ
type_of s k dx = filter_type s.nlx s.nly (τx k) (τy k) dx (min dx s.nly)

-- rule 1: a band's number
abbrev pub number_of : Shape → ℕ → List ℕ → ℕ → Kind → ℕ → ℕ → ℕ
number_of s Fq tops i k dx dy = band_number (get_or tops (band s (type_of s k dx) i) 0) Fq

-- rule 2: a component's number
unfoldable pub component_number_of : Shape → ℕ → List ℕ → ℕ → ℕ
component_number_of s Fq tops i = component_number (N'x s i) (N'y s i) (number_of s Fq tops i)

-- rules 4 and 5, with the component's precision B
unfoldable pub distance_of : Shape → ℕ → ℕ → ℕ → (ℕ → ℕ) → List ℕ → ℕ → ℕ
distance_of s Fq Cpih Bw B tops i = distance Bw (B i) (coloured_number Cpih (component_number_of s Fq tops) i)

-- numbers of four components, 0 where there is none
abbrev pub of_four : ℕ → (ℕ → ℕ) → List ℕ
of_four nc f = listed 4 (λ i. cond (ltb i nc) (f i) 0)

abbrev pub distances_of : Shape → ℕ → ℕ → ℕ → (ℕ → ℕ) → List ℕ → List ℕ
distances_of s Fq Cpih Bw B tops = of_four s.nc (distance_of s Fq Cpih Bw B tops)

-- ---- what is asked: an accepted header, and truncation positions of at most 31
pub record Stated (s : Shape) (Fq Cpih Bw : ℕ) (B tops : List ℕ) : Type 0 where
  pub built : Built s
  pub fq : Fq ≤ 15
  pub colour : Cpih ≡ 1 → 3 ≤ s.nc
  pub precisions : (i : ℕ) → i < s.nc → Precisions Bw (get_or B i 0)
  pub few : (b : ℕ) → get_or tops b 0 ≤ 31
