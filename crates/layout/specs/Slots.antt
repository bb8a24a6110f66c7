-- The packets that a precinct can have, numbered, and the lines that each can have, numbered: an order that index loops can follow. Slot 0 is the
-- first packet. Slot k above 0 is line l of one filter type, in the order of Table B.4's loops: floor((k − 1) / 3) + 1 is 2^g + l for the g-th level of both
-- directions, and (k − 1) mod 3 picks one of its three filter types.
use Rattle.std.specs.Prelude.{Bool, cond, List, ℕ, ◌+◌, ◌*◌, ◌-◌, ◌/◌, ◌%◌, ◌^◌, eqb, ltb}
use Rattle.bits.specs.Groups.{Ncg, Ns}
use Rattle.layout.specs.declared.Shape.{Shape}
use Rattle.layout.specs.declared.Line.{Line}
use Rattle.layout.specs.Bands.{sy, β₁, Wc, band, dx, depth}
use Rattle.layout.specs.Precincts.{Wpb, most_lines, first_x, first_y, L0}
use Rattle.layout.specs.Packets.{Part, part, included, loop, when, share}
use Rattle.layout.specs.Cells.{area, cell}

abbrev pub slots : Shape → ℕ
slots s = 1 + 3 * (2 ^ s.nly - 1)

-- the logarithm, rounded down, of 1, 2 or 3 (N_L,y is at most 2)
abbrev pub level_group : ℕ → ℕ
level_group m = m / 2

-- 2^g + l
abbrev pub turn_of : ℕ → ℕ
turn_of k = (k - 1) / 3 + 1

-- the slot's first filter type, how many it has, and its line l
unfoldable pub slot_type : Shape → ℕ → ℕ
slot_type s k = cond (eqb k 0) 0 (β₁ s + 3 * level_group (turn_of k) + (k - 1) % 3)

unfoldable pub slot_types : Shape → ℕ → ℕ
slot_types s k = cond (eqb k 0) (β₁ s) 1

unfoldable pub slot_line : ℕ → ℕ
slot_line k = cond (eqb k 0) 0 (turn_of k - 2 ^ level_group (turn_of k))

-- the candidates of a slot: β slow, i fast
abbrev pub candidates : Shape → ℕ → ℕ
candidates s k = slot_types s k * s.nc

-- line l of a band in a precinct, whether the precinct has it or not. `up` is how far the line above in the band lies
unfoldable pub line : Shape → ℕ → ℕ → ℕ → ℕ → ℕ → Line
line s row column β i l =
    record {
      present = included s row β i l;
      band = band s β i;
      component = i;
      cell = cell s β i (first_x s column β i) (first_y s row β i + l / sy s i);
      stride = 2 ^ dx s β;
      width = Wpb s column β i;
      groups = Ncg (Wpb s column β i);
      marks = Ns (Wpb s column β i);
      y = first_y s row β i + l / sy s i;
      area = area s i;
      up = 2 ^ depth s β i * Wc s i;
    }

-- candidate j of slot k
unfoldable pub line_at : Shape → ℕ → ℕ → ℕ → ℕ → Line
line_at s row column k j = line s row column (slot_type s k + j / s.nc) (j % s.nc) (slot_line k)

-- Table B.4, from the line to the packet. Row y of a band is line l of the band in its precinct, which has `most_lines` rows of s_y lines each
abbrev pub line_with : Shape → ℕ → ℕ → ℕ → ℕ
line_with s β i y = y % most_lines s β i * sy s i

-- the slot that has line l of filter type β: the first packet has the types below β₁, and type β₁ + 3g + m is the m-th of the g-th level
unfoldable pub slot_with : Shape → ℕ → ℕ → ℕ
slot_with s β l = cond (ltb β (β₁ s)) 0 (1 + 3 * (2 ^ ((β - β₁ s) / 3) + l - 1) + (β - β₁ s) % 3)

-- and the candidate that is component i's
unfoldable pub candidate_with : Shape → ℕ → ℕ → ℕ
candidate_with s β i = cond (ltb β (β₁ s)) (β * s.nc + i) i

-- the present candidates of a slot, as Table B.4 has them
unfoldable pub slot : Shape → ℕ → ℕ → List Part
slot s row k =
    loop 0 (candidates s k) 1 (λ j.
    when (included s row (slot_type s k + j / s.nc) (j % s.nc) (slot_line k))
    (part s (slot_type s k + j / s.nc) (j % s.nc) (slot_line k + L0 s (slot_type s k + j / s.nc) (j % s.nc))))

-- C.3: the packets of slots k and k' have a line of the same band
abbrev pub sharing : Shape → ℕ → ℕ → ℕ → Bool
sharing s row k k' = share (slot s row k) (slot s row k')
