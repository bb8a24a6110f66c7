-- Document 02, C-16: the pieces of what stands behind the header, in the order in which a reading comes to them. A precinct's body is its packets, which fill it,
-- and so no piece of its own.
use Rattle.std.specs.Prelude.{ℕ, ◌+◌, cond, List, [], ◌∷◌, ℤ}
use Rattle.loops.specs.Along.{along}
use Rattle.pieces.specs.Pieces.{Piece, Markers, Precincts}
use Rattle.layout.specs.Headers.{header_bytes_of}
use Rattle.layout.specs.Precincts.{Np, slices}
use Rattle.layout.specs.Slots.{slots, candidates}
use Rattle.packets.specs.declared.Setting.{Setting}
use Rattle.packets.specs.Packets.{any_line}
use Rattle.packets.specs.Pieces.{packet_pieces}
use Rattle.slices.specs.Precinct.{precinct_at, Packing, packet_turn, body, no_flags}
use Rattle.slices.specs.Slice.{State, slice_header_bytes, row_of, column_in, precinct_turn}
use Rattle.slices.specs.Stream.{slice_turn}

module _ (s : List ℕ) (c : Setting) (row column at : ℕ) where
  -- a slot's packet, at the state's place: 'An empty packet has no header'
  abbrev pub slot_pieces : ℕ → Packing s c row column at → List Piece
  slot_pieces slot x =
      let p = precinct_at s c row column at in
      cond (any_line c p slot (candidates c.shape slot)) (packet_pieces s c p slot x.0 x.2) []

  -- C.2: a precinct's header, with the padding behind its last D, and its packets
  unfoldable pub precinct_pieces : List ℤ → List Piece
  precinct_pieces cells =
      (Precincts, header_bytes_of c.shape)
      ∷ along (packet_turn s c row column at) slot_pieces (λ x. []) (slots c.shape) 0 (body s c row column at, no_flags s c row column at, cells)

module _ (s : List ℕ) (c : Setting) (t : ℕ) where
  -- precinct n of slice t
  abbrev pub placed_pieces : ℕ → State → List Piece
  placed_pieces n x = precinct_pieces s c (row_of s c t n) (column_in s c t n) x.0 x.2

  -- the precincts of slice t, the first of which stands at the state's place
  unfoldable pub precincts_pieces : State → List Piece
  precincts_pieces x = along (precinct_turn s c t) placed_pieces (λ y. []) (Np c.shape t) 0 x

  -- A.4.14: the slice's header and its precincts
  unfoldable pub slice_pieces : State → List Piece
  slice_pieces x = (Markers, slice_header_bytes) ∷ precincts_pieces (x.0 + slice_header_bytes, x.1, x.2)

-- Table A.1: the end marker
abbrev pub end_pieces : List Piece
end_pieces = (Markers, 2) ∷ []

-- A.2: the slices and the end marker. The first slice header stands at the state's place
unfoldable pub stream_pieces : List ℕ → Setting → State → List Piece
stream_pieces s c x = along (slice_turn s c) (slice_pieces s c) (λ y. end_pieces) (slices c.shape) 0 x
