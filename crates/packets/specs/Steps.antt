-- What the steps of a packet ask and answer.
use Rattle.std.specs.Prelude.{ℕ, ◌+◌, ◌*◌, ◌-◌, ◌^◌, ◌≤◌, ◌<◌, ◌≡◌, Bool, true, not, cond, ◌&&◌, List, [], ◌∷◌, ℤ, length, get_or, leb, Result, Ok}
use Rattle.rows.specs.Rows.{check, ample, first, answered, Fine, Verdict}
use Rattle.rows.specs.declared.Check.{Check}
use Rattle.rows.specs.declared.Row.TheVariants.{Length}
use Rattle.rows.specs.declared.Field.TheVariants.{Data, Signs}
use Rattle.pieces.specs.declared.Bytes.{Bytes}
use Rattle.pieces.specs.Pieces.{bytes_of, bytes_by}
use Rattle.layout.specs.declared.Shape.{Shape}
use Rattle.layout.specs.declared.Line.{Line}
use Rattle.layout.specs.Bands.{NL, band_exists}
use Rattle.layout.specs.Cells.{start}
use Rattle.layout.specs.Slots.{candidates}
use Rattle.counts.specs.Lines.{Line as LineCounts}
use Rattle.counts.specs.Lines.{line_counts}
use Rattle.values.specs.declared.Next.{Next}
use Rattle.values.specs.Line.{line_values}
use Rattle.packets.specs.declared.Setting.{Setting}
use Rattle.packets.specs.declared.Precinct.{Precinct}
use Rattle.packets.specs.declared.Parts.{Parts}
use Rattle.packets.specs.declared.Opened.{Opened}
use Rattle.packets.specs.declared.Content.{Content}
use Rattle.packets.specs.declared.Outcome.{Outcome}
use Rattle.packets.specs.Precincts.{D, T}
use Rattle.packets.specs.Ready.{Slotted, Standing}
use Rattle.packets.specs.Passes.{marks, flags, coding_of, place_of, values_of, valued, packet_values}
use Rattle.packets.specs.Packets.{head, raw, sig_at, cnt_at, dat_at, sgn_at, past, data_bytes, sign_bytes, head_checks, values_by, after_counts, counts_by, packet}
use Rattle.packets.specs.Pieces.{count_content, data_content, sign_content, packet_pieces}

-- ---- what is asked: a slot of a precinct with the stream, and with n cells

pub record Within (s : List ℕ) (c : Setting) (p : Precinct) (slot : ℕ) : Type 0 where
  pub slotted : Slotted c p slot
  pub short : length s < 2 ^ 32
  pub at : p.at ≤ p.end
  pub end : p.end ≤ length s

pub record Working (s : List ℕ) (c : Setting) (p : Precinct) (slot n : ℕ) : Type 0 where
  pub within : Within s c p slot
  pub standing : Standing s c p n

-- where a line lies that the precinct has: its coefficients and their counts among the cells of all components
pub record Lies (s : Shape) (row : ℕ) (l : Line) : Type 0 where
  pub inside : (x : ℕ) → x < l.width → l.cell + x * l.stride + l.area < start s s.nc
  pub apart : (x : ℕ) → x < l.width → x * l.stride < l.area
  pub narrow : l.width < 2 ^ 32
  pub few : l.marks < 2 ^ 32
  pub band : l.band < NL s
  pub exists : band_exists s l.band ≡ true
  pub above : 0 < row → l.up ≤ l.cell

-- the parts of a packet stand one after the other, and the contents of its subpackets fit in
pub record Holds (r : Parts) (k : Content) : Type 0 where
  pub sig : r.at ≤ r.sig
  pub cnt : r.sig ≤ r.cnt
  pub dat : r.cnt + k.counts ≤ r.dat
  pub sgn : r.dat + k.«data» ≤ r.sgn
  pub past : r.sgn + k.signs ≤ r.past
  pub small : r.past < 2 ^ 40

-- ---- what is answered. Bounds follow from the values, and stand beside them for the callers' sums

pub record IsMode (s : List ℕ) (c : Setting) (p : Precinct) (b r : ℕ) : Type 0 where
  pub value : r ≡ D s c p b
  pub below : r < 4

pub record IsTruncation (c : Setting) (p : Precinct) (b r : ℕ) : Type 0 where
  pub value : r ≡ T c p b
  pub most : r ≤ 31

pub record IsMarks (s : List ℕ) (c : Setting) (p : Precinct) (raw : Bool) (l : Line) (r : ℕ) : Type 0 where
  pub value : r ≡ flags s c p raw l
  pub small : r < 2 ^ 32

pub record AllMarks (s : List ℕ) (c : Setting) (p : Precinct) (slot : ℕ) (raw : Bool) (r : ℕ) : Type 0 where
  pub value : r ≡ marks s c p slot raw (candidates c.shape slot)
  pub small : r < 2 ^ 40

-- where the bytes of a packet went, by its parts and the contents of its subpackets
abbrev pub part_bytes : Parts → Content → Bytes
part_bytes r k =
    record {
      markers = 0;
      precincts = 0;
      packets = r.sig - r.at;
      significance = r.cnt - r.sig;
      counts = k.counts;
      «data» = k.«data»;
      signs = k.signs;
      filler = r.dat - r.cnt - k.counts + (r.sgn - r.dat - k.«data») + (r.past - r.sgn - k.signs);
      spoilt = 0;
    }

-- the checks of the data's length, where their content has so many bytes, and of the signs' length, by the parts of the packet. `done_table` shows that they are
-- `data_checks`
abbrev pub data_row : Precinct → Parts → ℕ → List Check
data_row p r content =
    check Length r.dat Data (r.sgn - r.dat) 0 (p.end - r.dat)
    ∷ check Length r.dat Data (r.sgn - r.dat) content ample
    ∷ check Length r.sgn Signs (r.past - r.sgn) 0 (p.end - r.sgn)
    ∷ []

-- the first slot that shares a band with an earlier one, which is the third before it
abbrev pub first_bound : ℕ
first_bound = 7

-- the flag to compare with, by the number of the slot. `flags_table` shows that this is C.3's rule
abbrev pub bound_flag : Setting → ℕ → List ℕ → ℕ → ℕ
bound_flag c slot raws free = cond (not c.rl && leb first_bound slot) (get_or raws (slot - 3) 0) free

-- a candidate's counts, and its values: nothing where it is not there
abbrev pub count_line : List ℕ → Setting → Precinct → List ℕ → List ℕ → Bool → Line → ℕ → ℕ → List ℤ → LineCounts × List ℤ
count_line s c p cnt sig raw l at z cells = cond l.present (line_counts cnt sig (coding_of s c p raw l.band) (place_of l) at z cells) (Ok (record { next = at; need = 0 }), cells)

abbrev pub value_line : Setting → Precinct → List ℕ → List ℕ → Line → Next → List ℤ → Next × List ℤ
value_line c p dat sgn l from cells = cond l.present (line_values dat sgn (values_of c) (valued c p l) from cells) (from, cells)

module _ (s : List ℕ) (c : Setting) (p : Precinct) (slot at : ℕ) where
  pub record IsParts (r : Parts) : Type 0 where
    pub place : r.at ≡ at
    pub raw : r.raw ≡ raw s c p slot at
    pub sig : r.sig ≡ sig_at s c p slot at
    pub cnt : r.cnt ≡ cnt_at s c p slot at
    pub dat : r.dat ≡ dat_at s c p slot at
    pub sgn : r.sgn ≡ sgn_at s c p slot at
    pub past : r.past ≡ past s c p slot at
    pub small : r.past < 2 ^ 40

  -- a header that is judged: past it the counts' stretch lies in the precinct
  pub record Opening (raws : List ℕ) (r : Opened) : Type 0 where
    pub verdict : r.verdict ≡ first (head_checks s c p slot at raws)
    pub dr : r.dr ≡ (head s c p slot at).dr
    pub parts : IsParts r.parts
    pub inside : r.verdict ≡ Fine → r.parts.dat ≤ p.end

  -- the bytes of the content of the signs, where the data and the signs are read over these cells
  abbrev pub signs_in : List ℤ → ℕ
  signs_in cells = sign_content (packet_values c p slot (data_bytes s c p slot at) (sign_bytes s c p slot at) cells).0

  -- and the contents, by what the counts come to
  abbrev pub contents_of : LineCounts × List ℤ → Content
  contents_of x = record { counts = count_content x.0; «data» = data_content x.0; signs = signs_in x.1 }

  -- the values
  pub record IsSigned (cells : List ℤ) (r : Result ℕ Check) (cells' : List ℤ) : Type 0 where
    pub read : r ≡ answered (values_by s c p slot at Fine cells).0 (signs_in cells)
    pub left : cells' ≡ (values_by s c p slot at Fine cells).1

  -- what follows the counts
  pub record IsContent (x : LineCounts × List ℤ) (r : Result Content Check) (cells' : List ℤ) : Type 0 where
    pub read : r ≡ answered (after_counts s c p slot at x).0 (contents_of x)
    pub left : cells' ≡ (after_counts s c p slot at x).1

  -- the counts and what follows them, by the verdict of the header
  pub record IsPassed (v : Verdict) (cells : List ℤ) (r : Result Bytes Check) (cells' : List ℤ) : Type 0 where
    pub read : r ≡ answered (counts_by s c p slot at v cells).0 (bytes_of (packet_pieces s c p slot at cells))
    pub left : cells' ≡ (counts_by s c p slot at v cells).1

  -- a packet: what it leaves, its raw flag, the place behind it, and its bytes
  pub record Decoded (raws : List ℕ) (cells : List ℤ) (r : Outcome) (cells' : List ℤ) : Type 0 where
    pub left : packet s c p slot at raws cells ≡ (r.verdict, cells')
    pub dr : r.dr ≡ (head s c p slot at).dr
    pub past : r.past ≡ past s c p slot at
    pub bytes : r.bytes ≡ bytes_by r.verdict (bytes_of (packet_pieces s c p slot at cells))
