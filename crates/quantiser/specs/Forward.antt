-- Quantization, D.4 and D.5, and the bitplane count of D.6: what a coder does before it writes. d is the size of a coefficient c, and the result
-- the magnitude v of its index.
use Rattle.std.specs.Prelude.{Bool, true, false, cond, ℕ, zero, suc, ◌+◌, ◌-◌, ◌*◌, ◌/◌, ◌^◌, ltb, ℤ}
use Rattle.whole.specs.Numbers.{by_size}

-- D.4, Table D.3: d >> T, whatever M
unfoldable pub deadzone_index : ℕ → ℕ → ℕ
deadzone_index T d = d / 2 ^ T

-- D.5, Table D.4: ((d << ζ) - d + (1 << M)) >> (M + 1), with ζ = M - T + 1, where M > T
unfoldable pub uniform_index : ℕ → ℕ → ℕ → ℕ
uniform_index M T d = cond (ltb T M) ((d * 2 ^ (M - T + 1) - d + 2 ^ M) / 2 ^ (M + 1)) 0

-- the quantiser that goes with Qpih, as in `inverse`
unfoldable pub forward : Bool → ℕ → ℕ → ℕ → ℕ
forward false M T d = deadzone_index T d
forward true M T d = uniform_index M T d

-- The signed index of a coefficient, with its sign s. An index of 0 has none
unfoldable pub index_of : Bool → ℕ → ℕ → ℤ → ℤ
index_of q M T c = by_size (forward q M T) c

-- D.6, the loop of Table D.5 over the bitplanes of v: how often v is halved until it is 0. `fuel` bounds the number of turns
unfoldable pub halvings : ℕ → ℕ → ℕ
halvings zero v = 0
halvings (suc fuel) zero = 0
halvings (suc fuel) (suc v) = suc (halvings fuel (suc v / 2))

-- D.6: the bitplane count of a code group whose largest size is v
unfoldable pub planes : ℕ → ℕ
planes v = halvings v v
