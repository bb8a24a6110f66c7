-- Two lines worked by hand from Tables C.9 and C.10: six coefficients in two groups, so that two are padding, of 2 planes and of 1. Assumes nothing.
use mathlib.Core.Bool.{true, false}
use mathlib.Core.List.{List, [], ◌∷◌}
use mathlib.Core.Path.{◌≡◌, refl}
use lib.IntN.{ℤ, pos, negsuc}
use Rattle.bits.specs.Fields.{bit_at}
use Rattle.quantiser.specs.Inverse.{deadzone, terms, series, uniform, inverse, coefficient_of, scaled}
use Rattle.bits.specs.Groups.{nibbles_of}
use Rattle.values.specs.Group.{planes, sign_bits, v, sign_bits_of, s, index}
use Rattle.values.specs.Line.{M, behind, placed, index_at, value_at, line_values}
use Rattle.values.specs.declared.Line.{Line}

-- every other cell of a row, with its count cells a row of 12 behind: M 3 and M 2 with T 1
line : Line
line = record { first = 1; stride = 2; width = 6; area = 12; t = 1 }

-- a row of 12 cells with six coefficients at the odd places, over a row of counts
cells : ℤ → ℤ → ℤ → ℤ → ℤ → ℤ → List ℤ
cells a b c d e f =
    pos 9 ∷ a ∷ pos 9 ∷ b ∷ pos 9 ∷ c ∷ pos 9 ∷ d ∷ pos 9 ∷ e ∷ pos 9 ∷ f
    ∷ pos 0 ∷ pos 35 ∷ pos 0 ∷ pos 0 ∷ pos 0 ∷ pos 0 ∷ pos 0 ∷ pos 0 ∷ pos 0 ∷ pos 34 ∷ pos 0 ∷ pos 0 ∷ []

before : List ℤ
before = cells (pos 7) (pos 7) (pos 7) (pos 7) (pos 7) (pos 7)

-- Fs = 1: the planes are 1010, 1001 | 0110, so v is 3, 0, 2, 1 | 0, 1, 1, 0; the signs are 1, 0, 1 | 1, 0, the last of a padding coefficient
signs_apart : line_values (169 ∷ 96 ∷ []) (176 ∷ []) (record { uniform = false; fs = true; fq = 0 }) line (record { at = 0; sign = 0 }) before
    ≡ (record { at = 3; sign = 5 }, cells (negsuc 6) (pos 0) (pos 5) (negsuc 2) (pos 0) (negsuc 2))
unfolding cells before line line_values value_at index_at behind placed M index s sign_bits_of v sign_bits nibbles_of planes scaled coefficient_of inverse uniform series terms deadzone bit_at
signs_apart = refl

-- Fs = 0: the nibbles are 1001 (signs), 1010, 1001 | 0100 (signs), 0110. The uniform quantiser, and Fq = 2
signs_within : line_values (154 ∷ 148 ∷ 96 ∷ []) [] (record { uniform = true; fs = false; fq = 2 }) line (record { at = 0; sign = 0 }) before
    ≡ (record { at = 5; sign = 0 }, cells (negsuc 23) (pos 0) (pos 16) (negsuc 7) (pos 0) (negsuc 7))
unfolding cells before line line_values value_at index_at behind placed M index s sign_bits_of v sign_bits nibbles_of planes scaled coefficient_of inverse uniform series terms deadzone bit_at
signs_within = refl
