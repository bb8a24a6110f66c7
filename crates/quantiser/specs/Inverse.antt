-- Inverse quantization, D.2 and D.3, over sizes and then with the sign. M is the bitplane count of a code group, T the truncation position of
-- its precinct and band, v the magnitude of an index.
use Rattle.std.specs.Prelude.{Bool, true, false, not, cond, ◌&&◌, ℕ, zero, suc, ◌+◌, ◌-◌, ◌*◌, ◌/◌, ◌^◌, ◌≤◌, ◌<◌, ltb, eqb, ℤ, pos, ◌*ℤ◌}
use Rattle.whole.specs.Numbers.{by_size}

-- The test of Tables D.1 and D.2: M > T && v != 0
abbrev pub included : ℕ → ℕ → ℕ → Bool
included M T v = ltb T M && not (eqb v 0)

-- D.2, Table D.1: (v << T) + r, with r = (1 << T) >> 1
unfoldable pub deadzone : ℕ → ℕ → ℕ → ℕ
deadzone M T v = cond (included M T v) (v * 2 ^ T + 2 ^ T / 2) 0

-- D.3, the loop of Table D.2: ρ = φ + (φ >> ζ) + (φ >> 2ζ) + .. until a term is 0. b stands for 2 ^ ζ, and `fuel` bounds the number of terms
unfoldable pub terms : ℕ → ℕ → ℕ → ℕ
terms zero b φ = 0
terms (suc fuel) b zero = 0
terms (suc fuel) b (suc φ) = suc φ + terms fuel b (suc φ / b)

-- with b above 1 at most φ of the terms are not 0
unfoldable pub series : ℕ → ℕ → ℕ
series b φ = terms φ b φ

-- D.3, Table D.2: the loop from φ = v << T, with ζ = M - T + 1
unfoldable pub uniform : ℕ → ℕ → ℕ → ℕ
uniform M T v = cond (included M T v) (series (2 ^ (M - T + 1)) (v * 2 ^ T)) 0

-- Table A.10: the quantiser that Qpih selects, deadzone at 0 (false), uniform at 1 (true)
unfoldable pub inverse : Bool → ℕ → ℕ → ℕ → ℕ
inverse false M T v = deadzone M T v
inverse true M T v = uniform M T v

-- The coefficient c = σ × size of a signed index. An index of 0 has no sign
unfoldable pub coefficient_of : Bool → ℕ → ℕ → ℤ → ℤ
coefficient_of q M T i = by_size (inverse q M T) i

-- E.3, Table E.2: c << Fq
unfoldable pub scaled : ℕ → ℤ → ℤ
scaled Fq c = c *ℤ pos (2 ^ Fq)

-- An index magnitude that a stream can hold: the bitplane count is at most 31, and a data subpacket carries M - T planes
pub record Carried (M T v : ℕ) : Type 0 where
  pub count : M ≤ 31
  pub below : v < 2 ^ (M - T)
