-- What the steps of a precinct, a slice and the stream ask and answer.
use Rattle.std.specs.Prelude.{ℕ, ◌^◌, ◌≤◌, ◌<◌, ◌≡◌, Bool, false, List, [], ◌∷◌, ℤ, length, Result, Ok, Err, IfOk}
use Rattle.loops.specs.Run.{Turn, go, stop}
use Rattle.rows.specs.Rows.{Fine, Refused, Verdict}
use Rattle.rows.specs.declared.Check.{Check}
use Rattle.pieces.specs.Pieces.{Piece, Markers, bytes_of, bytes_by, plus}
use Rattle.pieces.specs.declared.Bytes.{Bytes}
use Rattle.layout.specs.Precincts.{Npx, Npy}
use Rattle.layout.specs.Cells.{start}
use Rattle.packets.specs.declared.Setting.{Setting}
use Rattle.packets.specs.declared.Precinct.{Precinct}
use Rattle.packets.specs.Ready.{Settled}
use Rattle.slices.specs.declared.precincts.Flags.{Flags}
use Rattle.slices.specs.declared.Reading.{Reading}
use Rattle.slices.specs.Precinct.{precinct_at, packet_turn}
use Rattle.slices.specs.Slice.{State, Left, slice_header_bytes}
use Rattle.slices.specs.Pieces.{slot_pieces, precinct_pieces}

-- ---- what is asked

-- a stream in whose offsets nothing wraps, a place in it, an accepted header, and as many cells as it asks for
pub record Lent (s : List ℕ) (c : Setting) (at cells : ℕ) : Type 0 where
  pub settled : Settled c
  pub short : length s < 2 ^ 32
  pub inside : at ≤ length s
  pub room : start c.shape c.shape.nc ≤ cells

-- a precinct of the picture. Only the top row of a slice can be the picture's first
pub record Placed (c : Setting) (p : Precinct) (top : Bool) : Type 0 where
  pub row : p.row < Npy c.shape
  pub column : p.column < Npx c.shape
  pub later : top ≡ false → 0 < p.row

-- ---- what is answered. Bounds follow from the values, and stand beside them for the callers' sums

pub record IsPrecinct (s : List ℕ) (c : Setting) (row column at : ℕ) (p : Precinct) : Type 0 where
  pub is : p ≡ precinct_at s c row column at
  pub small : p.end < 2 ^ 33

-- what is said of what is read, or refused
abbrev pub said : {A : Type 0} → Result A Check → Verdict
said (Ok x) = Fine
said (Err k) = Refused k

-- a packet goes on with the next place and the flags, or refuses
abbrev pub onward : Result Flags Check → List ℤ → Turn (ℕ × List ℕ × List ℤ) (Verdict × List ℤ)
onward (Ok f) cells = go (f.at, f.raws, cells)
onward (Err k) cells = stop (Refused k, cells)

pub record Passed (s : List ℕ) (c : Setting) (p : Precinct) (slot place : ℕ) (raws : List ℕ) (cells : List ℤ) (r : Result Flags Check) (cells' : List ℤ) : Type 0 where
  pub turn : packet_turn s c p.row p.column p.at slot (place, raws, cells) ≡ onward r cells'
  pub inside : IfOk r (λ f. f.at ≤ p.end)
  pub bytes : IfOk r (λ f. f.bytes ≡ bytes_of (slot_pieces s c p.row p.column p.at slot (place, raws, cells)))

-- a precinct, or its packets: what is left, and where the bytes went
pub record IsPacked (s : List ℕ) (c : Setting) (p : Precinct) (left : Verdict × List ℤ) (cells : List ℤ) (r : Result Bytes Check) (cells' : List ℤ) : Type 0 where
  pub is : left ≡ (said r, cells')
  pub bytes : IfOk r (λ b. b ≡ bytes_of (precinct_pieces s c p.row p.column p.at cells))

-- a precinct goes on with the reading, or refuses with it
abbrev pub further : Verdict → State → Turn State Left
further (Ok _) x = go x
further (Err k) x = stop (Refused k, x)

-- a precinct or a slice that has these pieces
pub record Turned (s : List ℕ) (turn : Turn State Left) (has : List Piece) (r : Reading) (cells' : List ℤ) : Type 0 where
  pub is : turn ≡ further r.verdict (r.at, r.tops, cells')
  pub inside : r.verdict ≡ Fine → r.at ≤ length s
  pub bytes : r.bytes ≡ bytes_by r.verdict (bytes_of has)

-- a slice, or its precincts
pub record Read (s : List ℕ) (left : Left) (has : List Piece) (r : Reading) (cells' : List ℤ) : Type 0 where
  pub is : left ≡ (r.verdict, (r.at, r.tops, cells'))
  pub inside : r.verdict ≡ Fine → r.at ≤ length s
  pub bytes : r.bytes ≡ bytes_by r.verdict (bytes_of has)

-- the precincts of a slice, which are read in r, and the header before them
pub record Headed (r q : Reading) : Type 0 where
  pub verdict : q.verdict ≡ r.verdict
  pub at : q.at ≡ r.at
  pub tops : q.tops ≡ r.tops
  pub bytes : q.bytes ≡ bytes_by r.verdict (plus (bytes_of ((Markers, slice_header_bytes) ∷ [])) r.bytes)
