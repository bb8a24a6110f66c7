-- A.1.2: bit strings stand in the stream with the left bit first, numerical values u(n) with the most significant bit first. The standard says nothing of bits
-- past a stretch's end. Here each reads as 0, so that readers are total; whether a field is there is a check of its own.
use Rattle.std.specs.Prelude.{ℕ, zero, suc, ◌+◌, ◌-◌, ◌*◌, ◌/◌, ◌%◌, ◌^◌, ◌<◌, ◌≡◌, List, get_or}

-- bit i of the stretch: bit 7 − i mod 8 of byte i / 8
unfoldable pub bit_at : List ℕ → ℕ → ℕ
bit_at s i = get_or s (i / 8) 0 / 2 ^ (7 - i % 8) % 2

-- u(n) at bit i: the n bits from bit i on, the first one highest
unfoldable pub field : List ℕ → ℕ → ℕ → ℕ
field s i zero = 0
field s i (suc n) = field s i n * 2 + bit_at s (i + n)

-- u(n) at a place, which counts bytes. A.3: parameters stand with the most significant byte first
abbrev pub field_at : List ℕ → ℕ → ℕ → ℕ
field_at s place n = field s (8 * place) n

-- what a reader of u(n) at bit i answers. The bound follows from the value, and stands beside it for the callers' sums
pub record IsField (s : List ℕ) (i n r : ℕ) : Type 0 where
  pub value : r ≡ field s i n
  pub below : r < 2 ^ n
