-- Document 02, C-16, as statements of one reading, in either mode, with a plane or without: s is the stream, and r is the record. Each of the four contracts
-- `Reads`, `ReadsDamaged`, `ReadsPlaces` and `ReadsDamagedPlaces` gives them. 'The page record gains totals for markers and their segments (slice headers and
-- the end marker with them), precinct headers, packet headers, each kind of subpacket, filler and, in C-15's mode, the precincts of spoilt slices.'
use Rattle.std.specs.Prelude.{Bool, false, List, ◌≡◌, ℕ, ◌≤◌, length}
use Rattle.pieces.specs.Pieces.{Kind, Markers, Precincts, Packets, Significance, Counts, Data, Signs, Filler, Spoilt, total, nothing, all}
use Rattle.pieces.specs.declared.Bytes.{Bytes}
use Rattle.reader.specs.declared.page.Page.{Page}
use Rattle.reader.specs.Page.{header_of}
use Rattle.reader.specs.Modes.{pieces_in}

-- the record's total of one kind
abbrev pub total_in : Kind → Bytes → ℕ
total_in Markers b = b.markers
total_in Precincts b = b.precincts
total_in Packets b = b.packets
total_in Significance b = b.significance
total_in Counts b = b.counts
total_in Data b = b.«data»
total_in Signs b = b.signs
total_in Filler b = b.filler
total_in Spoilt b = b.spoilt

pub record BytesTold (damaged : Bool) (s : List ℕ) (r : Page) : Type 0 where
  -- 'Each total comes from its own definition over the stream's pieces': it is what the pieces of its kind have, and no remainder of the others
  pub own : r.answer ≡ 0 → (k : Kind) → total_in k r.bytes ≡ total k (pieces_in s (header_of s) damaged)
  -- 'and on success they add up to the stream length', which is then the record's place
  pub sum : r.answer ≡ 0 → all r.bytes ≡ length s
  pub place : r.answer ≡ 0 → all r.bytes ≡ r.place
  -- 'On refusal all are 0'
  pub none : (r.answer ≡ 0 → ⊥) → r.bytes ≡ nothing
  -- so whatever the answer, none is above the stream's length
  pub most : (k : Kind) → total_in k r.bytes ≤ length s
  -- 'in C-15's mode, the precincts of spoilt slices': in the other mode no slice is one
  pub unspoilt : damaged ≡ false → r.bytes.spoilt ≡ 0
