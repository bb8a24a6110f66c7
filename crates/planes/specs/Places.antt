-- Values and coefficients as they stand in the work cells: component i's first from its own start on, row by row; its counts behind them.
use Rattle.std.specs.Prelude.{◌≡◌, List, ℕ, ◌+◌, ◌*◌, ◌≤◌, ◌<◌, ℤ, nat_abs, length, get_or}
use Rattle.whole.specs.Cells.{cell}
use Rattle.wavelet.specs.Places.{bands}
use Rattle.output.specs.Linear.{Precisions}
use Rattle.layout.specs.declared.Shape.{Shape}
use Rattle.layout.specs.Bands.{sx, Wc, Hc}
use Rattle.layout.specs.Built.{Built}
use Rattle.layout.specs.Cells.{area, start}
use Rattle.planes.specs.Values.{Coefficients, Values}

abbrev pub values_in : Shape → List ℤ → Values ℤ
values_in s l i x y = cell l (start s i + (y * Wc s i + x))

-- each coefficient where the samples that it becomes will be
abbrev pub coefficients_in : Shape → List ℤ → Coefficients
coefficients_in s l i = bands (values_in s l i)

-- a place of the picture
pub record Inside (s : Shape) (i x y : ℕ) : Type 0 where
  pub component : i < s.nc
  pub column : x < Wc s i
  pub row : y < Hc s i

-- ---- what is asked

-- the reversible transform is of three components of one size: Table A.7 and the component table see to it
pub record Colours (s : Shape) (Cpih : ℕ) : Type 0 where
  pub three : Cpih ≡ 1 → 3 ≤ s.nc
  pub full : Cpih ≡ 1 → (i : ℕ) → i < s.nc → sx s i ≡ 1

-- room for every cell, and values that no filter takes out of the machine's range
pub record Ready (s : Shape) (bound : ℕ) (l : List ℤ) : Type 0 where
  pub built : Built s
  pub room : start s s.nc ≤ length l
  pub small : (i x y : ℕ) → Inside s i x y → nat_abs (values_in s l i x y) ≤ bound

-- ---- what is answered

-- l' is l with the values v, and with no other cell changed
pub record Holding (s : Shape) (v : Values ℤ) (l l' : List ℤ) : Type 0 where
  pub same : length l' ≡ length l
  pub values : (i x y : ℕ) → Inside s i x y → values_in s l' i x y ≡ v i x y
  pub other : (n : ℕ) → ((i : ℕ) → i < s.nc → start s i ≤ n → start s i + area s i ≤ n) → cell l' n ≡ cell l n

-- the precisions of the components
abbrev pub Depths : Shape → ℕ → List ℕ → Type 0
Depths s Bw B = (i : ℕ) → i < s.nc → Precisions Bw (get_or B i 0)
