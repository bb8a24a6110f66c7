-- A code group of a line: its Ng = 4 indices, as the data subpacket (C.5.4) and the sign subpacket (C.5.5) hold them. A data subpacket is a row of
-- nibbles, and bit k of a nibble, the first being bit 0, belongs to coefficient k of its group.
use Rattle.std.specs.Prelude.{Bool, cond, List, ℕ, zero, suc, ◌+◌, ◌-◌, ◌*◌, ◌^◌, eqb, ℤ}
use Rattle.whole.specs.Numbers.{signed}
use Rattle.bits.specs.Fields.{bit_at}
use Rattle.bits.specs.Groups.{Ng, sign_nibbles}

-- ---- Table C.9

-- v + (d << i) for i = n - 1, .., 0: the n bitplanes of coefficient k, the highest at the nibble `from`
unfoldable pub planes : List ℕ → ℕ → ℕ → ℕ → ℕ
planes dat from zero k = 0
planes dat from (suc i) k = bit_at dat (Ng * from + k) * 2 ^ i + planes dat (from + 1) i k

-- ---- Table C.10

-- the sign bits of the first k coefficients of a group with the magnitudes v: one for each where v != 0
unfoldable pub sign_bits : (ℕ → ℕ) → ℕ → ℕ
sign_bits v zero = 0
sign_bits v (suc k) = sign_bits v k + cond (eqb (v k) 0) 0 1

-- ---- the group whose data begin at the nibble `at`, and whose signs, where Fs is 1, begin at the bit `sign` of the sign subpacket

module _ (dat : List ℕ) (fs : Bool) (M T at : ℕ) where
  -- v[Ng g + k], of M - T planes: of none where M ≤ T
  unfoldable pub v : ℕ → ℕ
  v k = planes dat (at + sign_nibbles fs) (M - T) k

  -- the bits that the group takes of the sign subpacket: those of all Ng coefficients, also past the line's end (NOTE 2). None where Fs is 0
  unfoldable pub sign_bits_of : ℕ
  sign_bits_of = cond fs (sign_bits v Ng) 0

  module _ (sgn : List ℕ) (sign : ℕ) where
    -- s[Ng g + k]
    unfoldable pub s : ℕ → ℕ
    s k = cond fs (bit_at sgn (sign + sign_bits v k)) (bit_at dat (Ng * at + k))

    -- the signed index of coefficient k. An index of 0 has no sign, whatever bit stands there
    unfoldable pub index : ℕ → ℤ
    index k = signed (eqb (s k) 1) (v k)
