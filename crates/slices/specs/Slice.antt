-- A.4.14 and B.11: a slice, its header and its precincts, from left to right and from top to bottom.
use Rattle.std.specs.Prelude.{ℕ, ◌+◌, ◌/◌, ◌%◌, Bool, List, [], ◌∷◌, ◌++◌, eqb, ℤ, Ok, Err}
use Rattle.loops.specs.Run.{Turn, go, stop, run}
use Rattle.rows.specs.Rows.{check, ample, first, Fine, Refused, Verdict}
use Rattle.rows.specs.declared.Check.{Check}
use Rattle.rows.specs.declared.Row.TheVariants.{Cut, Marker, Value, Lacking}
use Rattle.rows.specs.declared.Field.TheVariants.{Slh, Lslh, Ysl}
use Rattle.bits.specs.Fields.{field_at}
use Rattle.picture.specs.Markers.{SLH, SLI}
use Rattle.picture.specs.Segment.{segment_at, length_checks}
use Rattle.picture.specs.declared.segment.Segment.{Segment}
use Rattle.layout.specs.declared.Shape.{Shape}
use Rattle.layout.specs.Bands.{NL}
use Rattle.layout.specs.Precincts.{Npx, Np, slice_top}
use Rattle.packets.specs.declared.Setting.{Setting}
use Rattle.slices.specs.Precinct.{precinct, precinct_at, raised}

-- the next place, the bands' largest T so far, and the cells
abbrev pub State : Type 0
State = ℕ × List ℕ × List ℤ

-- the verdict with them
abbrev pub Left : Type 0
Left = Verdict × State

-- A.4.14: 0xff20, and 0xff21 is not built
abbrev pub slice_marker : Segment → List Check
slice_marker g =
    check Cut g.at Slh g.left 2 ample
    ∷ check Marker g.at Slh g.marker SLH SLI
    ∷ check Lacking g.at Slh g.marker SLH SLH
    ∷ []

-- A.4.14: Lslh counts itself and Ysl, and a slice header has the two bytes of its marker besides
abbrev pub slice_length : ℕ
slice_length = 4

abbrev pub slice_header_bytes : ℕ
slice_header_bytes = 2 + slice_length

-- A.4.14: the length, and the slice index Ysl, which is t
abbrev pub slice_checks : List ℕ → ℕ → ℕ → List Check
slice_checks s t at =
    slice_marker (segment_at s at) ++ (length_checks (segment_at s at) Lslh slice_length slice_length ++ (check Value (at + 4) Ysl (field_at s (at + 4) 16) t t ∷ []))

-- whether a row of precincts is the top row of slice t
abbrev pub top_row : Shape → ℕ → ℕ → Bool
top_row s t row = eqb row (slice_top s t)

module _ (s : List ℕ) (c : Setting) (t : ℕ) where
  -- precinct n of the slice
  abbrev pub row_of : ℕ → ℕ
  row_of n = slice_top c.shape t + n / Npx c.shape

  abbrev pub column_in : ℕ → ℕ
  column_in n = n % Npx c.shape

  abbrev pub is_top : ℕ → Bool
  is_top n = top_row c.shape t (row_of n)

  abbrev pub placed : ℕ → State → Verdict × List ℤ → Turn State Left
  placed n x (Ok _, cells) =
      let p = precinct_at s c (row_of n) (column_in n) x.0 in
      go (p.end, raised c p (NL c.shape) x.1, cells)
  placed n x (Err k, cells) = stop (Refused k, (x.0, x.1, cells))

  unfoldable pub precinct_turn : ℕ → State → Turn State Left
  precinct_turn n x = placed n x (precinct s c (row_of n) (column_in n) x.0 (is_top n) x.2)

  unfoldable pub precincts : State → Left
  precincts x = run precinct_turn (λ y. (Fine, y)) (Np c.shape t) 0 x

  abbrev pub precincts_by : Verdict → State → Left
  precincts_by (Ok _) x = precincts (x.0 + slice_header_bytes, x.1, x.2)
  precincts_by (Err k) x = (Refused k, x)

  -- slice t, whose header stands at the state's place
  unfoldable pub slice : State → Left
  slice x = precincts_by (first (slice_checks s t x.0)) x
