-- The part of Annex C that counts bands: the precinct header (Table C.1) and the truncation position (Table C.12).
use Rattle.std.specs.Prelude.{cond, List, ℕ, zero, suc, ◌+◌, ◌*◌, ◌-◌, ◌^◌, min, ltb}
use Rattle.whole.specs.Cells.{listed}
use Rattle.whole.specs.Numbers.{ceil_div}
use Rattle.layout.specs.declared.Shape.{Shape}
use Rattle.layout.specs.Bands.{NL, band_exists}

-- Table C.1: how many of the bands below b have a field D[p,b]
unfoldable pub modes : Shape → ℕ → ℕ
modes s zero = 0
modes s (suc b) = modes s b + cond (band_exists s b) 1 0

-- Table C.1: Lprc[p] u(24), Q[p] u(8) and R[p] u(8) stand before the fields D[p,b] u(2); the first bit of D[p,b]
abbrev pub mode_bit : Shape → ℕ → ℕ
mode_bit s b = 24 + 8 + 8 + 2 * modes s b

-- the first bits of all D[p,b], for up to 40 bands; in the places of bands that there are not, the bit behind the last D
abbrev pub mode_bits : Shape → List ℕ
mode_bits s = listed 40 (λ b. mode_bit s (min b (NL s)))

-- Table C.1: the bytes of the header, with its padding
abbrev pub header_bytes_of : Shape → ℕ
header_bytes_of s = ceil_div (mode_bit s (NL s)) 8

-- Table C.1: R[p] is 0 to 2 N_L − 1
abbrev pub most_refinement : Shape → ℕ
most_refinement s = 2 * NL s - 1

-- Table C.12, without temporal prediction: clamp(q − g − s, 0, 2^Br − 1), where s is 1 for a priority below the refinement. The difference of naturals is
-- the clamp at 0
abbrev pub truncation : ℕ → ℕ → ℕ → ℕ → ℕ → ℕ
truncation q r gain priority br = min (q - (gain + cond (ltb priority r) 1 0)) (2 ^ br - 1)
