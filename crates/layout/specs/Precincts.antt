-- B.5, B.6 and B.11: precincts, the part of each band in a precinct, and slices. Precinct p stands in row floor(p / Npx) and column p mod Npx.
use Rattle.std.specs.Prelude.{cond, ◌≡◌, ℕ, zero, suc, ◌+◌, ◌*◌, ◌-◌, ◌/◌, ◌%◌, ◌^◌, min, max, ltb}
use Rattle.whole.specs.Numbers.{ceil_div}
use Rattle.wavelet.specs.Bands.{τx, τy}
use Rattle.layout.specs.declared.Shape.{Shape}
use Rattle.layout.specs.Bands.{sx, sy, N'y, kind, dx, depth, Hb}

-- the largest of f 0, .., f (n − 1)
unfoldable pub largest : (ℕ → ℕ) → ℕ → ℕ
largest f zero = 0
largest f (suc n) = max (largest f n) (f n)

-- B.5: the width of a column of precincts
unfoldable pub Cs : Shape → ℕ
Cs s = cond (ltb 0 s.cw) (8 * s.cw * largest (sx s) s.nc * 2 ^ s.nlx) s.wf

-- B.5: the precincts in a row, and in a column, of the sampling grid
unfoldable pub Npx : Shape → ℕ
Npx s = ceil_div s.wf (Cs s)

unfoldable pub Npy : Shape → ℕ
Npy s = ceil_div s.hf (2 ^ s.nly)

-- B.5: Wp[p], the width of a precinct in this column
unfoldable pub Wp : Shape → ℕ → ℕ
Wp s column = cond (ltb column (Npx s - 1)) (Cs s) ((s.wf - 1) % Cs s + 1)

-- B.5: the coefficient in column x and row y of a band belongs to the precinct in this row and column
pub record Member (s : Shape) (row column β i x y : ℕ) : Type 0 where
  pub down : row ≡ y * sy s i * 2 ^ depth s β i / 2 ^ s.nly
  pub across : column ≡ x * sx s i * 2 ^ dx s β / Cs s

-- B.5: Wpb[p,b], how many columns of the band these are: low-pass (0) or high-pass (1). As in B.2, a high-pass width is a floor of a ceil; the
-- printed formula has the two exchanged, which contradicts the rule above
abbrev pub by_letter : {A : Type 0} → ℕ → A → A → A
by_letter zero low high = low
by_letter (suc n) low high = high

unfoldable pub Wpb : Shape → ℕ → ℕ → ℕ → ℕ
Wpb s column β i =
    by_letter (τx (kind s β)) (ceil_div (Wp s column) (sx s i * 2 ^ dx s β)) (ceil_div (Wp s column) (sx s i * 2 ^ (dx s β - 1)) / 2)

-- the first of them: the least x with x · s_x · 2^dx ≥ column · Cs
unfoldable pub first_x : Shape → ℕ → ℕ → ℕ → ℕ
first_x s column β i = ceil_div (column * Cs s) (sx s i * 2 ^ dx s β)

-- the lines of a band in a precinct: 2^k of them, from row · 2^k on, and none below the band's height
abbrev pub most_lines : Shape → ℕ → ℕ → ℕ
most_lines s β i = 2 ^ (N'y s i - depth s β i)

abbrev pub first_y : Shape → ℕ → ℕ → ℕ → ℕ
first_y s row β i = row * most_lines s β i

unfoldable pub lines : Shape → ℕ → ℕ → ℕ → ℕ
lines s row β i = min (Hb s β i - first_y s row β i) (most_lines s β i)

-- B.6: the first line of a band, counted in lines of the sampling grid, and the line past its last. The printed L1 counts the lines of a component with
-- s_y = 2 as if each took one line of the grid, and so drops the lower half of them: each takes s_y lines
unfoldable pub L0 : Shape → ℕ → ℕ → ℕ
L0 s β i = 2 ^ (s.nly - depth s β i) * τy (kind s β)

unfoldable pub L1 : Shape → ℕ → ℕ → ℕ → ℕ
L1 s row β i = L0 s β i + lines s row β i * sy s i

-- Table E.2 and B.11: the row of precincts that has row y of the band, by the rule above, and the slice that has that row
abbrev pub row_with : Shape → ℕ → ℕ → ℕ → ℕ
row_with s β i y = y * sy s i * 2 ^ depth s β i / 2 ^ s.nly

abbrev pub slice_with : Shape → ℕ → ℕ → ℕ → ℕ
slice_with s β i y = row_with s β i y / s.hsl

-- B.11: the rows of precincts in slice t, its precincts, and its first row
unfoldable pub slice_rows : Shape → ℕ → ℕ
slice_rows s t = cond (ltb (Npy s) ((t + 1) * s.hsl)) (Npy s % s.hsl) s.hsl

abbrev pub Np : Shape → ℕ → ℕ
Np s t = Npx s * slice_rows s t

abbrev pub slice_top : Shape → ℕ → ℕ
slice_top s t = t * s.hsl

-- as many slices as hold every row
unfoldable pub slices : Shape → ℕ
slices s = ceil_div (Npy s) s.hsl

-- Table E.2 and B.11: the column of precincts that has column x of the band, and the number, in its slice, of the precinct that has the coefficient there
abbrev pub column_with : Shape → ℕ → ℕ → ℕ → ℕ
column_with s β i x = x * sx s i * 2 ^ dx s β / Cs s

abbrev pub number_with : Shape → ℕ → ℕ → ℕ → ℕ → ℕ
number_with s β i x y = (row_with s β i y - slice_top s (slice_with s β i y)) * Npx s + column_with s β i x
