-- B.8 and B.9: the code groups and the significance groups of a line. With them what a code group takes of the data (Table C.9), and the cell of the work
-- buffer that holds its bitplane count.
use Rattle.std.specs.Prelude.{ℕ, ◌+◌, ◌-◌, ◌*◌, ◌/◌, ◌%◌, ◌≤◌, ◌≡◌, Bool, cond, ltb, ℤ, pos, negsuc}
use Rattle.whole.specs.Numbers.{ceil_div}

-- Table A.7: a code group has 4 coefficients, a significance group 8 code groups
abbrev pub Ng : ℕ
Ng = 4

abbrev pub Ss : ℕ
Ss = 8

-- B.8, B.9: how many code groups, and how many significance groups, a line of this width has
abbrev pub Ncg : ℕ → ℕ
Ncg width = ceil_div width Ng

abbrev pub Ns : ℕ → ℕ
Ns width = ceil_div width (Ng * Ss)

-- ---- Table C.9: the data of a code group, in nibbles, which have a bit for each of its coefficients

-- the nibble of the signs, which stands before the planes where Fs == 0
abbrev pub sign_nibbles : Bool → ℕ
sign_nibbles fs = cond fs 0 1

-- the nibbles that the group takes: none unless M > T
unfoldable pub nibbles_of : ℕ → ℕ → Bool → ℕ
nibbles_of M T fs = cond (ltb T M) (sign_nibbles fs + (M - T)) 0

-- ---- the count cell

-- of group g in a line whose first coefficient has the cell `first` and whose others are `stride` apart: `area` cells behind the group's first coefficient
abbrev pub count_cell_of : ℕ → ℕ → ℕ → ℕ → ℕ
count_cell_of first stride area g = first + Ng * g * stride + area

-- what it holds: the bitplane count M and the truncation position T
abbrev pub packed : ℕ → ℕ → ℤ
packed M T = pos (M + 32 * T)

-- M and T are read whatever stands in it: a negative number is read as 0
abbrev pub held : ℤ → ℕ
held (pos n) = n
held (negsuc n) = 0

abbrev pub held_m : ℤ → ℕ
held_m z = held z % 32

abbrev pub held_t : ℤ → ℕ
held_t z = held z / 32 % 32

-- ---- what the readers answer. The bound follows from M ≤ 31, and stands beside the number for the callers' sums
pub record Takes (M T : ℕ) (fs : Bool) (r : ℕ) : Type 0 where
  pub number : r ≡ nibbles_of M T fs
  pub most : r ≤ 32
