-- The passes over the lines of a packet (Tables C.6, C.8, C.9 and C.10). Line j is candidate j of the packet's slot; one that the precinct does not have
-- is passed over.
use Rattle.std.specs.Prelude.{ℕ, zero, suc, ◌+◌, ◌/◌, ◌%◌, Bool, not, cond, ◌&&◌, List, eqb, ℤ, Ok, Err}
use Rattle.loops.specs.Run.{Turn, go, stop, run}
use Rattle.layout.specs.Slots.{line_at, candidates}
use Rattle.layout.specs.declared.Line.{Line}
use Rattle.counts.specs.declared.group.Coding.{Coding}
use Rattle.counts.specs.declared.group.Mode.{Mode}
use Rattle.counts.specs.declared.group.Mode.TheVariants.{Raw, NoPrediction, Vertical}
use Rattle.counts.specs.declared.Place.{Place}
use Rattle.counts.specs.Lines.{Line as LineCounts, line_counts, end as counts_left}
use Rattle.values.specs.declared.Line.{Line as Valued}
use Rattle.values.specs.declared.Coding.{Coding as Values}
use Rattle.values.specs.declared.Next.{Next}
use Rattle.values.specs.Line.{line_values}
use Rattle.packets.specs.declared.Setting.{Setting}
use Rattle.packets.specs.declared.Precinct.{Precinct}
use Rattle.packets.specs.Precincts.{D, T}

abbrev pub line : Setting → Precinct → ℕ → ℕ → Line
line c p slot j = line_at c.shape p.row p.column slot j

-- ---- Table C.6: Z is there for a line where Dr = 0 and D & 2

abbrev pub marked : List ℕ → Setting → Precinct → Bool → Line → Bool
marked s c p raw l = l.present && not raw && eqb (D s c p l.band / 2) 1

-- the significance flags of a line
abbrev pub flags : List ℕ → Setting → Precinct → Bool → Line → ℕ
flags s c p raw l = cond (marked s c p raw l) l.marks 0

-- and of the lines below j
unfoldable pub marks : List ℕ → Setting → Precinct → ℕ → Bool → ℕ → ℕ
marks s c p slot raw zero = 0
marks s c p slot raw (suc j) = marks s c p slot raw j + flags s c p raw (line c p slot j)

-- ---- Table C.8

-- Dr == 1, which is `raw`; else (D & 1) == 0; else
abbrev pub mode_of : Bool → ℕ → Mode
mode_of raw d = cond raw Raw (cond (eqb (d % 2) 0) NoPrediction Vertical)

abbrev pub coding_of : List ℕ → Setting → Precinct → Bool → ℕ → Coding
coding_of s c p raw b =
    record {
      mode = mode_of raw (D s c p b);
      flags = eqb (D s c p b / 2) 1;
      run = c.rm;
      fs = c.fs;
      t = T c p b;
      br = c.br;
    }

abbrev pub place_of : Line → Place
place_of l = record { first = l.cell; stride = l.stride; width = l.width; area = l.area; up = l.up }

-- the next bit of the counts, the nibbles of data that they ask for, and the cells
abbrev pub Counting : Type 0
Counting = ℕ × ℕ × List ℤ

abbrev pub counted : ℕ → LineCounts × List ℤ → Turn Counting (LineCounts × List ℤ)
counted need (Ok k, cells) = go (k.next, need + k.need, cells)
counted need (Err f, cells) = stop (Err f, cells)

-- the stretch of the counts and that of the significance flags
module _ (s : List ℕ) (c : Setting) (p : Precinct) (slot : ℕ) (cnt sig : List ℕ) (raw : Bool) where
  unfoldable pub count_turn : ℕ → Counting → Turn Counting (LineCounts × List ℤ)
  count_turn j x =
      cond (line c p slot j).present
      (counted x.1 (line_counts cnt sig (coding_of s c p raw (line c p slot j).band) (place_of (line c p slot j)) x.0 (marks s c p slot raw j) x.2))
      (go x)

  -- all lines of the packet
  unfoldable pub packet_counts : List ℤ → LineCounts × List ℤ
  packet_counts cells = run count_turn counts_left (candidates c.shape slot) 0 (0, 0, cells)

-- ---- Tables C.9 and C.10, with Annex D

abbrev pub values_of : Setting → Values
values_of c = record { uniform = c.uniform; fs = c.fs; fq = c.fq }

abbrev pub valued : Setting → Precinct → Line → Valued
valued c p l = record { first = l.cell; stride = l.stride; width = l.width; area = l.area; t = T c p l.band }

-- the stretch of the data and that of the signs
module _ (c : Setting) (p : Precinct) (slot : ℕ) (dat sgn : List ℕ) where
  unfoldable pub value_turn : ℕ → Next × List ℤ → Turn (Next × List ℤ) (Next × List ℤ)
  value_turn j x = go (cond (line c p slot j).present (line_values dat sgn (values_of c) (valued c p (line c p slot j)) x.0 x.1) x)

  unfoldable pub packet_values : List ℤ → Next × List ℤ
  packet_values cells = run value_turn (λ x. x) (candidates c.shape slot) 0 (record { at = 0; sign = 0 }, cells)
