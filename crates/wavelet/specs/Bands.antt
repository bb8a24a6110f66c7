-- B.2 to B.4 for one component: which filter types it has, and how many coefficients in each.
use Rattle.std.specs.Prelude.{◌≡◌, ℕ, ◌≤◌, ◌<◌, min}
use Rattle.wavelet.specs.Transform.{Kind, LL, HL, LH, HH, low_size, high_size}

-- B.3: 1 where a filter type is high-pass, across and down
abbrev pub τx : Kind → ℕ
τx LL = 0
τx HL = 1
τx LH = 0
τx HH = 1

abbrev pub τy : Kind → ℕ
τy LL = 0
τy HL = 0
τy LH = 1
τy HH = 1

-- B.2, B.3: the filter types of a component with Nx levels across and Ny, no more, down
abbrev pub Has : ℕ → ℕ → Kind → ℕ → ℕ → Type 0
Has Nx Ny LL dx dy = (dx ≡ Nx) × (dy ≡ Ny)
Has Nx Ny HL dx dy = (0 < dx) × (dx ≤ Nx) × (dy ≡ min dx Ny)
Has Nx Ny LH dx dy = (0 < dx) × (dx ≤ Ny) × (dy ≡ dx)
Has Nx Ny HH dx dy = (0 < dx) × (dx ≤ Ny) × (dy ≡ dx)

-- B.2: the columns and the rows of a band
abbrev pub columns : ℕ → Kind → ℕ → ℕ
columns W LL d = low_size W d
columns W HL d = high_size W d
columns W LH d = low_size W d
columns W HH d = high_size W d

abbrev pub rows : ℕ → Kind → ℕ → ℕ
rows H LL d = low_size H d
rows H HL d = low_size H d
rows H LH d = high_size H d
rows H HH d = high_size H d

-- the coefficient in column x and row y of a band that a component of W by H samples has
pub record Coefficient (W H Nx Ny : ℕ) (k : Kind) (dx dy x y : ℕ) : Type 0 where
  pub has : Has Nx Ny k dx dy
  pub column : x < columns W k dx
  pub row : y < rows H k dy

-- it can be made of Nx levels across and Ny down: no more down than across, and two samples or more to every filter
pub record Decomposed (W H Nx Ny : ℕ) : Type 0 where
  pub no_more : Ny ≤ Nx
  pub two_across : (d : ℕ) → d < Nx → 2 ≤ low_size W d
  pub two_down : (d : ℕ) → d < Ny → 2 ≤ low_size H d
