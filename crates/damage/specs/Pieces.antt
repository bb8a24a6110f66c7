-- Document 02, C-16: the pieces of the slices in the two modes of reading. Of a spoilt slice, 'the precincts of spoilt slices' are all bytes of its precincts, their
-- headers included, as their declared lengths lead through them; its slice header is a marker's as that of every other slice.
use Rattle.std.specs.Prelude.{ℕ, ◌+◌, Bool, true, false, cond, List, [], ◌∷◌}
use Rattle.loops.specs.Along.{along}
use Rattle.pieces.specs.Pieces.{Piece, Markers, Spoilt}
use Rattle.bits.specs.Fields.{field_at}
use Rattle.layout.specs.Headers.{header_bytes_of}
use Rattle.layout.specs.Precincts.{Np, slices}
use Rattle.packets.specs.declared.Setting.{Setting}
use Rattle.slices.specs.Slice.{State, slice_header_bytes}
use Rattle.slices.specs.Walk.{walk_turn}
use Rattle.slices.specs.Pieces.{slice_pieces, end_pieces}
use Rattle.damage.specs.Stream.{refuses, precincts_of, turn_by}

module _ (s : List ℕ) (c : Setting) where
  -- Table C.1: a precinct that is stepped over, whose header stands at a place: the header and the Lprc bytes behind it
  abbrev pub stepped_pieces : ℕ → ℕ → List Piece
  stepped_pieces n at = (Spoilt, header_bytes_of c.shape + field_at s at 24) ∷ []

  -- the precincts of slice t, the first of which stands at a place
  unfoldable pub walked_pieces : ℕ → ℕ → List Piece
  walked_pieces t at = along (walk_turn s c) stepped_pieces (λ y. []) (Np c.shape t) 0 at

  unfoldable pub spoilt_pieces : ℕ → ℕ → List Piece
  spoilt_pieces t at = (Markers, slice_header_bytes) ∷ walked_pieces t (at + slice_header_bytes)

  -- slice t of a damaged page, whose header stands at the state's place
  abbrev pub damaged_pieces : ℕ → State → List Piece
  damaged_pieces t x = cond (refuses (precincts_of s c t x).0) (spoilt_pieces t x.0) (slice_pieces s c t x)

  -- in one mode and in the other
  abbrev pub pieces_by : Bool → ℕ → State → List Piece
  pieces_by false = slice_pieces s c
  pieces_by true = damaged_pieces

  -- A.2: the slices and the end marker
  unfoldable pub stream_pieces_by : Bool → State → List Piece
  stream_pieces_by damaged x = along (turn_by s c damaged) (pieces_by damaged) (λ y. end_pieces) (slices c.shape) 0 x
