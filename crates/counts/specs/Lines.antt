-- Table C.8: the bitplane counts of one line of one band, in the work cells.
use Rattle.std.specs.Prelude.{ℕ, ◌+◌, ◌-◌, ◌*◌, ◌/◌, ◌^◌, ◌≤◌, ◌<◌, ◌≡◌, Bool, ◌&&◌, List, eqb, ℤ, set, Result, Ok, Err}
use Rattle.loops.specs.Run.{Turn, go, stop, run}
use Rattle.whole.specs.Cells.{cell}
use Rattle.bits.specs.Fields.{bit_at}
use Rattle.bits.specs.Groups.{Ss, Ncg, nibbles_of, count_cell_of, packed, held_m, held_t}
use Rattle.counts.specs.Groups.{Group, unpack_raw, unpack_nopred, unpack_vertical}
use Rattle.counts.specs.declared.group.Coding.{Coding}
use Rattle.counts.specs.declared.group.Mode.{Mode}
use Rattle.counts.specs.declared.group.Mode.TheVariants.{Raw, NoPrediction, Vertical}
use Rattle.counts.specs.declared.group.Fault.{Fault}
use Rattle.counts.specs.declared.group.Fault.TheVariants.{Cut, High, Long}
use Rattle.counts.specs.declared.Place.{Place}
use Rattle.counts.specs.declared.Counted.{Counted}

-- the count cell of code group g
abbrev pub count_cell : Place → ℕ → ℕ
count_cell p g = count_cell_of p.first p.stride p.area g

-- Tables C.15 and C.16: (D & 2) == 0 || Z[⌊g / Ss⌋] == 0 says that the Δm of group g is coded. The line's flags stand from bit z on
abbrev pub insignificant : List ℕ → Coding → ℕ → ℕ → Bool
insignificant sig c z g = c.flags && eqb (bit_at sig (z + g / Ss)) 1

-- ---- a group in its place

-- Table C.13: the predictors are M and T of the same group one line up
abbrev pub above_cell : Place → ℕ → ℕ
above_cell p g = count_cell p g - p.up

abbrev pub above : Place → ℕ → List ℤ → ℤ
above p g cells = cell cells (above_cell p g)

-- Table C.8: the count of group g, which stands at bit i of the stretch
unfoldable pub unpack : Mode → List ℕ → List ℕ → Coding → Place → ℕ → ℕ → ℕ → List ℤ → Group
unpack Raw s sig c p z g i cells = unpack_raw s c.br i
unpack NoPrediction s sig c p z g i cells = unpack_nopred s c (insignificant sig c z g) i
unpack Vertical s sig c p z g i cells = unpack_vertical s c (insignificant sig c z g) (held_m (above p g cells)) (held_t (above p g cells)) i

-- ---- the line

-- the next bit, the nibbles so far, and the cells
abbrev pub State : Type 0
State = ℕ × ℕ × List ℤ

-- what reading a line finds: the next bit and the nibbles, or why it is refused
abbrev pub Line : Type 0
Line = Result Counted Fault

-- what a line leaves
abbrev pub Left : Type 0
Left = Line × List ℤ

-- a group's count goes to its cell, and a refusal ends the line
abbrev pub stored : Coding → ℕ → State → Group → Turn State Left
stored c to x (Ok k) = go (k.next, x.1 + nibbles_of k.m c.t c.fs, set x.2 to (packed k.m c.t))
stored c to x (Err f) = stop (Err f, x.2)

-- the turn of group g
unfoldable pub turn : List ℕ → List ℕ → Coding → Place → ℕ → ℕ → State → Turn State Left
turn s sig c p z g x = stored c (count_cell p g) x (unpack c.mode s sig c p z g x.0 x.2)

abbrev pub end : State → Left
end x = (Ok (record { next = x.0; need = x.1 }), x.2)

-- Table C.8's loop over the line's groups, whose codes stand in the stretch s from bit i on
unfoldable pub line_counts : List ℕ → List ℕ → Coding → Place → ℕ → ℕ → List ℤ → Left
line_counts s sig c p i z cells = run (turn s sig c p z) end (Ncg p.width) 0 (i, 0, cells)

-- ---- what the reader finds and asks

-- a line is refused for a count, or for a number of 1-bits, that is out of range
abbrev pub Founded : ℕ → Line → Type 0
Founded br (Ok k) = Unit {0}
Founded br (Err Cut) = Unit {0}
Founded br (Err (High m)) = 31 < m
Founded br (Err (Long n)) = 2 ^ (br + 1) ≤ n

-- a stretch of `bytes` bytes, and n cells that hold the line and, for vertical prediction, the line above it
pub record Ready (c : Coding) (p : Place) (bytes z n : ℕ) : Type 0 where
  pub br : c.br ≤ 5
  pub t : c.t ≤ 31
  -- offsets in bits fit a word
  pub short : bytes < 2 ^ 56
  pub narrow : p.width < 2 ^ 56
  pub near : z < 2 ^ 60
  -- every coefficient's count cell, and so its own, is one of the n
  pub inside : (x : ℕ) → x < p.width → p.first + x * p.stride + p.area < n
  -- there is a line above
  pub above : c.mode ≡ Vertical → p.up ≤ p.first
