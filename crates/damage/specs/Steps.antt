-- What the steps of the slices' loop answer.
use Rattle.std.specs.Prelude.{List, [], ◌∷◌, ◌↔◌, ◌≡◌, ℕ, ◌+◌, ◌-◌, ◌≤◌, ◌<◌, ℤ, pos, negsuc, length, Ok, Err}
use Rattle.whole.specs.Cells.{cell}
use Rattle.rows.specs.Rows.{first, Fine, Verdict}
use Rattle.pieces.specs.Pieces.{Piece, Markers, Spoilt, bytes_of, bytes_by, plus}
use Rattle.pieces.specs.declared.Bytes.{Bytes}
use Rattle.layout.specs.declared.Shape.{Shape}
use Rattle.layout.specs.Bands.{Hc}
use Rattle.layout.specs.Cells.{area, start}
use Rattle.layout.specs.Slices.{slice_of_row}
use Rattle.slices.specs.Slice.{State, Left, slice_header_bytes}
use Rattle.slices.specs.Stream.{end_checks}
use Rattle.slices.specs.Pieces.{end_pieces}
use Rattle.slices.specs.declared.Reading.{Reading}
use Rattle.std.specs.declared.ops.Range.{Range}

-- a reading that goes on from a state, and where the bytes went of what is behind it
pub record Onward (x : State) (b : Bytes) (r : Reading) (cells' : List ℤ) : Type 0 where
  pub fine : r.verdict ≡ Fine
  pub is : x ≡ (r.at, r.tops, cells')
  pub bytes : r.bytes ≡ b

-- behind slice t, whose precincts have a verdict: the bytes of a slice that is read or, where one of them is refused, of one whose precincts stand from a place
-- on, and before another
abbrev pub behind_bytes : Verdict → ℕ → ℕ → Bytes → Bytes
behind_bytes (Ok _) from to bytes = bytes
behind_bytes (Err k) from to bytes = bytes_of ((Markers, slice_header_bytes) ∷ (Spoilt, to - from) ∷ [])

-- behind the last slice
pub record IsEnd (s : List ℕ) (place : ℕ) (most : List ℕ) (b : Bytes) (r : Reading) : Type 0 where
  pub verdict : r.verdict ≡ first (end_checks s place)
  pub at : r.at ≡ place + 2
  pub tops : r.tops ≡ most
  pub bytes : r.bytes ≡ bytes_by r.verdict (plus b (bytes_of end_pieces))

-- all slices, and the end of the stream
pub record Streamed (left : Left) (has : List Piece) (r : Reading) (cells' : List ℤ) : Type 0 where
  pub is : left ≡ (r.verdict, (r.at, r.tops, cells'))
  pub bytes : r.bytes ≡ bytes_by r.verdict (bytes_of has)

-- ---- the cells

-- document 02, C-15: what is lost of a page is told by numbers. 1 where a coefficient is lost, by its count cell, and 0 where it is not
abbrev pub lost_number : ℤ → ℤ
lost_number (pos n) = pos 0
lost_number (negsuc n) = pos 1

-- l' is l, and in the place of each coefficient of the components before i stands that number
pub record LostNumbersBefore (s : Shape) (i : ℕ) (l l' : List ℤ) : Type 0 where
  pub same : length l' ≡ length l
  pub number : (j n : ℕ) → j < i → n < area s j → cell l' (start s j + n) ≡ lost_number (cell l (start s j + area s j + n))
  pub other : (n : ℕ) → ((j : ℕ) → j < i → start s j ≤ n → start s j + area s j ≤ n) → cell l' n ≡ cell l n

-- of all components
abbrev pub LostNumbers : Shape → List ℤ → List ℤ → Type 0
LostNumbers s = LostNumbersBefore s s.nc

-- r has the rows of component i that slice t has
pub record IsRows (s : Shape) (i t : ℕ) (r : Range ℕ) : Type 0 where
  pub ordered : r.start ≤ r.end
  pub inside : r.end ≤ Hc s i
  pub has : (Y : ℕ) → Y < Hc s i → (slice_of_row s i Y ≡ t) ↔ ((r.start ≤ Y) × (Y < r.end))

-- l' is l with the value v from `from` on and before `to`
pub record Stretched (from to : ℕ) (v : ℤ) (l l' : List ℤ) : Type 0 where
  pub same : length l' ≡ length l
  pub inside : (n : ℕ) → from ≤ n → n < to → cell l' n ≡ v
  pub other : (n : ℕ) → (from ≤ n → to ≤ n) → cell l' n ≡ cell l n

-- l' is l, and in the first k cells from `from` on stand the numbers of those that lie `size` cells behind
pub record NumberedBy (from size k : ℕ) (l l' : List ℤ) : Type 0 where
  pub same : length l' ≡ length l
  pub number : (n : ℕ) → n < k → cell l' (from + n) ≡ lost_number (cell l (from + size + n))
  pub other : (n : ℕ) → (from ≤ n → from + k ≤ n) → cell l' n ≡ cell l n
