-- A slice owns whole rows of cells: those from a multiple of its height on, and a coefficient stands in a row of the slice that B.5 puts it into.
-- Assumes nothing.
use mathlib.Core.Path.{◌≡◌, sym, ap, ◌∙◌}
use Prim.Native.Nat.{ℕ, ◌+◌, ◌*◌, ◌-◌, ◌/◌, ◌^◌, ◌≤◌, ◌<◌}
use native.Mathlib.Nat.{mul_comm, mul-div_cancel, mul-div-mul_right, div-div-eq-div-mul, div-eq_of_lt, div-eq_of_lt-le, div-mul-le_self, lt-div-mul-add, mul-add-div_right, mul-le-mul, add-mul, one-mul}
use native.Mathlib.Omega.{arith}
use lib.Pow.{pow_pos, pow-add}
use Rattle.wavelet.specs.Transform.{Kind, LL, HL, LH, HH}
use Rattle.wavelet.specs.Bands.{τy, Has}
use Rattle.wavelet.specs.Places.{place}
use Rattle.layout.specs.declared.Shape.{Shape}
use Rattle.layout.specs.Bands.{sy, N'y, kind, dx, depth}
use Rattle.layout.specs.Built.{Built}
use Rattle.layout.specs.Precincts.{most_lines}
use Rattle.layout.specs.Slices.{precinct_cell_rows, slice_cell_rows, slice_of_row}
use Rattle.layout.proofs.Shapes.{depth_own}
use Rattle.layout.proofs.Existing.{band_has}
use Rattle.layout.proofs.Reaches.{double, scale}
use Rattle.layout.proofs.Cells.{Exists}
use Rattle.layout.proofs.Cover.{row_of_lem}

-- a high-pass row stands half a step behind its low-pass row
half_step : (Nx Ny dx d : ℕ) (k : Kind) → Has Nx Ny k dx d → τy k * 2 ^ (d - 1) < 2 ^ d
half_step Nx Ny dx d LL h = omega (arith, pow_pos d)
half_step Nx Ny dx d HL h = omega (arith, pow_pos d)
half_step Nx Ny dx d LH h = omega (arith, double d (omega (arith, h)), pow_pos (d - 1))
half_step Nx Ny dx d HH h = omega (arith, double d (omega (arith, h)), pow_pos (d - 1))

module _ (s : Shape) (built : Built s) (i : ℕ) (h : i < s.nc) where
  pub cell_rows_power : precinct_cell_rows s i ≡ 2 ^ N'y s i
  cell_rows_power =
      ap (λ (n : ℕ). n / sy s i) (sym (scale s i built h) ∙ mul_comm (sy s i) (2 ^ N'y s i)) ∙ mul-div_cancel (2 ^ N'y s i) (built.sampled i h).down

  -- the row of precincts in which a row of cells lies
  precinct_of_row : (Y : ℕ) → Y * sy s i / 2 ^ s.nly ≡ Y / 2 ^ N'y s i
  precinct_of_row Y =
      ap (λ (n : ℕ). Y * sy s i / n) (sym (scale s i built h) ∙ mul_comm (sy s i) (2 ^ N'y s i)) ∙ mul-div-mul_right Y (2 ^ N'y s i) (built.sampled i h).down

  slice_rows_some : 0 < slice_cell_rows s i
  slice_rows_some = omega (arith, mul-le-mul {n₁ = 1} {m₁ = 1} built.slice (pow_pos (N'y s i)), ap (λ (n : ℕ). s.hsl * n) cell_rows_power)

  -- a slice's rows are the next ones from a multiple of their number on
  pub slice_of_row_is : (Y : ℕ) → slice_of_row s i Y ≡ Y / slice_cell_rows s i
  slice_of_row_is Y =
      ap (λ (n : ℕ). n / s.hsl) (precinct_of_row Y ∙ ap (λ (n : ℕ). Y / n) (sym cell_rows_power))
      ∙ div-div-eq-div-mul Y (precinct_cell_rows s i) s.hsl
      ∙ ap (λ (n : ℕ). Y / n) (mul_comm (precinct_cell_rows s i) s.hsl)

  pub slice_has_row : (t Y : ℕ) → slice_of_row s i Y ≡ t → (t * slice_cell_rows s i ≤ Y) × (Y < (t + 1) * slice_cell_rows s i)
  slice_has_row t Y e =
      let n = slice_cell_rows s i in
      let q : Y / n * n ≡ t * n = ap (λ (k : ℕ). k * n) (sym (slice_of_row_is Y) ∙ e) in
      (omega (arith, div-mul-le_self Y n, q), omega (arith, lt-div-mul-add {a = Y} {b = n} slice_rows_some, q, add-mul t 1 n, one-mul n))

  pub row_in_slice : (t Y : ℕ) → t * slice_cell_rows s i ≤ Y → Y < (t + 1) * slice_cell_rows s i → slice_of_row s i Y ≡ t
  row_in_slice t Y a b = slice_of_row_is Y ∙ div-eq_of_lt-le (slice_cell_rows s i) a b

  -- a coefficient's row is one of the slice that has it by B.5
  module _ {β x y : ℕ} (e : Exists s i β x y) where
    abbrev d : ℕ
    d = depth s β i

    precinct_of_place : place (τy (kind s β)) d y / 2 ^ N'y s i ≡ y / most_lines s β i
    precinct_of_place =
        let half = half_step s.nlx (N'y s i) (dx s β) d (kind s β) (band_has s built i h β e.type e.there) in
        let whole : d + (N'y s i - d) ≡ N'y s i = omega (arith, depth_own s β i) in
        let power : 2 ^ N'y s i ≡ 2 ^ d * most_lines s β i = ap (λ (n : ℕ). 2 ^ n) (sym whole) ∙ pow-add 2 d (N'y s i - d) in
        let own : place (τy (kind s β)) d y / 2 ^ d ≡ y = mul-add-div_right (pow_pos d) y (τy (kind s β) * 2 ^ (d - 1)) ∙ omega (arith, div-eq_of_lt half) in
        ap (λ (n : ℕ). place (τy (kind s β)) d y / n) power
        ∙ sym (div-div-eq-div-mul (place (τy (kind s β)) d y) (2 ^ d) (most_lines s β i))
        ∙ ap (λ (n : ℕ). n / most_lines s β i) own

    pub coefficient_slice : slice_of_row s i (place (τy (kind s β)) d y) ≡ y * sy s i * 2 ^ d / 2 ^ s.nly / s.hsl
    coefficient_slice = ap (λ (n : ℕ). n / s.hsl) (precinct_of_row (place (τy (kind s β)) d y) ∙ precinct_of_place ∙ sym (row_of_lem s built β i h y))
