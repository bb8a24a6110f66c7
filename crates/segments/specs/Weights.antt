-- A.4.12: the weights table. p is its marker's place, k counts the existing bands.
use Rattle.std.specs.Prelude.{ℕ, ◌+◌, ◌*◌, Bool, List, [], ◌∷◌}
use Rattle.bits.specs.Fields.{field_at}
use Rattle.rows.specs.Rows.{check, each}
use Rattle.rows.specs.declared.Check.{Check}
use Rattle.rows.specs.declared.Field.TheVariants.{G}
use Rattle.rows.specs.declared.Row.TheVariants.{Value}
use Rattle.picture.specs.declared.picture.Picture.{Picture}
use Rattle.segments.specs.Bands.{bands, band_exists, existing}
use Rattle.segments.specs.Components.{sy_at}

-- B.4: b'x[b], by the component table at `cdt`
abbrev pub band_in : List ℕ → Picture → ℕ → ℕ → Bool
band_in s h cdt b = band_exists h.nc h.nlx h.nly (sy_at s cdt) b

-- document 01: 'n existing bands'
abbrev pub bands_in : List ℕ → Picture → ℕ → ℕ
bands_in s h cdt = existing (band_in s h cdt) (bands h.nc h.nlx h.nly)

-- Table A.25
abbrev pub gain_at : List ℕ → ℕ → ℕ → ℕ
gain_at s p k = field_at s (p + 4 + 2 * k) 8

abbrev pub priority_at : List ℕ → ℕ → ℕ → ℕ
priority_at s p k = field_at s (p + 5 + 2 * k) 8

-- Table A.25: a gain is 0 to 15. A priority is 0 to 255, as every byte is
abbrev pub gain_row : List ℕ → ℕ → ℕ → List Check
gain_row s p k = check Value (p + 4 + 2 * k) G (gain_at s p k) 0 15 ∷ []

abbrev pub gain_checks : List ℕ → ℕ → ℕ → List Check
gain_checks s p n = each n (gain_row s p)
