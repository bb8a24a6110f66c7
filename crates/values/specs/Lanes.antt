-- A code group read by words (C.5.4): the nibbles of its planes stand in one word, and its four sizes come to stand in another. The line's
-- definitions do not need these.
--
-- A lane is 16 bits of a word that hold a number of their own: lane k, where lane 0 is the lowest, has the size of coefficient k. A number below 2 ^ 16 does not
-- carry into the next lane, so that one sum of two words adds in all four lanes, and twice a word is one plane more for all four coefficients.
use Rattle.std.specs.Prelude.{Bool, cond, List, ◌≡◌, ℕ, zero, suc, ◌+◌, ◌-◌, ◌*◌, ◌/◌, ◌%◌, ◌^◌, ◌≤◌, ◌<◌, eqb, ℤ, get_or}
use Rattle.whole.specs.Numbers.{signed}
use Rattle.bits.specs.Fields.{bit_at}
use Rattle.bits.specs.Groups.{Ng, sign_nibbles, Takes}
use Rattle.quantiser.specs.Inverse.{coefficient_of, scaled, Carried}
use Rattle.values.specs.Group.{planes, sign_bits}
use Rattle.values.specs.declared.Group.{Group}
use Rattle.values.specs.declared.Next.{Next}
use Rattle.values.specs.declared.words.Found.{Found}

-- four numbers in their lanes
unfoldable pub lanes : (ℕ → ℕ) → ℕ
lanes f = f 0 + 2 ^ 16 * f 1 + 2 ^ 32 * f 2 + 2 ^ 48 * f 3

-- the number in lane k
abbrev pub lane : ℕ → ℕ → ℕ
lane w k = w / 2 ^ (16 * k) % 2 ^ 16

-- ---- planes: a nibble is one plane, a byte is two

-- bit k of a nibble, the first being the highest, into lane k
unfoldable pub one_plane : ℕ → ℕ
one_plane x = lanes (λ k. x / 2 ^ (3 - k) % 2)

-- the sizes that the last j nibbles of a word make. The last nibble is the lowest plane
unfoldable pub spread : ℕ → ℕ → ℕ
spread zero w = 0
spread (suc j) w = 2 * spread j (w / 16) + one_plane (w % 16)

-- those that a byte makes: its first nibble is the higher plane
abbrev pub two_planes : ℕ → ℕ
two_planes b = 2 * one_plane (b / 16) + one_plane (b % 16)

-- the table has them for every byte
pub record IsPairs (table : List ℕ) : Type 0 where
  pub each : (b : ℕ) → b < 256 → get_or table b 0 ≡ two_planes b

-- ---- what is read of a whole group

-- A group for words: its four coefficients have their cells, and its nibbles, a sign nibble and at most 14 planes, are among eight bytes of a data subpacket of
-- n bytes
pub record Short (g : Group) (next : Next) (n : ℕ) : Type 0 where
  pub whole : g.count ≡ Ng
  pub few : g.m - g.t ≤ 14
  pub there : next.at / 2 + 8 ≤ n

-- of n planes at the nibble `at` of the data subpacket, and with the signs, where Fs is 1, at the bit `sign` of the sign subpacket: the sizes in their lanes,
-- four sign bits of which the first is the highest, and what the group takes of both subpackets. A group of n planes takes what one with M = n and T = 0 does
module _ (dat sgn : List ℕ) (fs : Bool) (n at sign : ℕ) where
  abbrev pub sizes_of : ℕ → ℕ
  sizes_of = planes dat (at + sign_nibbles fs) n

  pub record IsFound (r : Found) : Type 0 where
    pub sizes : r.sizes ≡ lanes sizes_of
    pub signs : (k : ℕ) → k < Ng → r.signs / 2 ^ (3 - k) % 2 ≡ cond fs (bit_at sgn (sign + sign_bits sizes_of k)) (bit_at dat (Ng * at + k))
    pub taken : Takes n 0 fs r.taken
    pub used : r.used ≡ cond fs (sign_bits sizes_of Ng) 0

-- ---- into the cells

-- M - T planes carry the size in each lane
pub record Sizes (M T sizes : ℕ) : Type 0 where
  pub each : (k : ℕ) → k < Ng → Carried M T (lane sizes k)

-- the coefficient of lane k, with the sign bit that is its own
unfoldable pub lane_value : Bool → ℕ → ℕ → ℕ → ℕ → ℕ → ℕ → ℤ
lane_value q M T Fq sizes signs k = scaled Fq (coefficient_of q M T (signed (eqb (signs / 2 ^ (3 - k) % 2) 1) (lane sizes k)))

-- one of four values
abbrev pub fourth : ℤ → ℤ → ℤ → ℤ → ℕ → ℤ
fourth a b c d zero = a
fourth a b c d (suc zero) = b
fourth a b c d (suc (suc zero)) = c
fourth a b c d (suc (suc (suc k))) = d
