-- Document 02, C-16: 'The page record gains totals for markers and their segments (slice headers and the end marker with them), precinct headers, packet
-- headers, each kind of subpacket, filler and, in C-15's mode, the precincts of spoilt slices. Each total comes from its own definition over the stream's pieces.'
-- A piece is a stretch of a stream: what it holds, and how many bytes it has. `Pieces` of packets, slices, damage and header say which pieces a stream has.
use Rattle.std.specs.Prelude.{ℕ, ◌+◌, Bool, cond, List, [], ◌∷◌, eqb, Ok, Err}
use Rattle.rows.specs.Rows.{Verdict}
use Rattle.pieces.specs.declared.Bytes.{Bytes}

-- in the order of the totals. Of the four kinds of subpacket a piece is the content, 'padding to the byte included'; what is declared behind it is filler
pub data Kind : Type 0 where
  Markers : Kind
  Precincts : Kind
  Packets : Kind
  Significance : Kind
  Counts : Kind
  Data : Kind
  Signs : Kind
  Filler : Kind
  Spoilt : Kind

abbrev pub numbered : Kind → ℕ
numbered Markers = 0
numbered Precincts = 1
numbered Packets = 2
numbered Significance = 3
numbered Counts = 4
numbered Data = 5
numbered Signs = 6
numbered Filler = 7
numbered Spoilt = 8

abbrev pub alike : Kind → Kind → Bool
alike k j = eqb (numbered k) (numbered j)

abbrev pub Piece : Type 0
Piece = Kind × ℕ

-- the bytes of the pieces of one kind
unfoldable pub total : Kind → List Piece → ℕ
total k [] = 0
total k (p ∷ ps) = cond (alike k p.0) p.1 0 + total k ps

-- and of all pieces, whatever their kind
unfoldable pub size : List Piece → ℕ
size [] = 0
size (p ∷ ps) = p.1 + size ps

-- the nine totals
abbrev pub bytes_of : List Piece → Bytes
bytes_of ps =
    record {
      markers = total Markers ps;
      precincts = total Precincts ps;
      packets = total Packets ps;
      significance = total Significance ps;
      counts = total Counts ps;
      «data» = total Data ps;
      signs = total Signs ps;
      filler = total Filler ps;
      spoilt = total Spoilt ps;
    }

abbrev pub nothing : Bytes
nothing = record { markers = 0; precincts = 0; packets = 0; significance = 0; counts = 0; «data» = 0; signs = 0; filler = 0; spoilt = 0 }

-- 'On refusal all are 0'
abbrev pub bytes_by : Verdict → Bytes → Bytes
bytes_by (Ok _) b = b
bytes_by (Err k) b = nothing

-- two, kind by kind
abbrev pub plus : Bytes → Bytes → Bytes
plus a b =
    record {
      markers = a.markers + b.markers;
      precincts = a.precincts + b.precincts;
      packets = a.packets + b.packets;
      significance = a.significance + b.significance;
      counts = a.counts + b.counts;
      «data» = a.«data» + b.«data»;
      signs = a.signs + b.signs;
      filler = a.filler + b.filler;
      spoilt = a.spoilt + b.spoilt;
    }

-- the nine, added up
abbrev pub all : Bytes → ℕ
all b = b.markers + b.precincts + b.packets + b.significance + b.counts + b.«data» + b.signs + b.filler + b.spoilt
