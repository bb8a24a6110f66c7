-- The slices of a page, in the two modes of reading. Document 02, C-15: in one of them, where a slice is spoilt, the reading 'sets that slice's coefficients to 0,
-- steps over its precincts by their declared lengths and continues'. What the walk by declared lengths judges ends the page; what else a reading judges in a
-- slice's precincts spoils the slice.
use Rattle.std.specs.Prelude.{ℕ, ◌+◌, Bool, true, false, List, Ok, Err}
use Rattle.loops.specs.Run.{Turn, go, stop, run}
use Rattle.loops.specs.Before.{before}
use Rattle.rows.specs.Rows.{Refused, Verdict}
use Rattle.layout.specs.Precincts.{slices}
use Rattle.packets.specs.declared.Setting.{Setting}
use Rattle.slices.specs.Slice.{State, Left, slice_header_bytes, precincts}
use Rattle.slices.specs.Stream.{slice_turn, ended}
use Rattle.slices.specs.Walk.{walk_slice}
use Rattle.damage.specs.Lost.{lose}

abbrev pub refuses : Verdict → Bool
refuses (Ok _) = false
refuses (Err k) = true

-- behind slice t, whose precincts leave a verdict and a state: that state, or where one of them is refused, the slice is lost with all of its coefficients, also
-- those of precincts before. It ends at `to`, where its declared lengths lead, and the bands' largest T are those of the slices before
abbrev pub behind_slice : Setting → ℕ → ℕ → List ℕ → Left → State
behind_slice c t to tops (Ok _, y) = y
behind_slice c t to tops (Err k, y) = (to, tops, lose c.shape t y.2)

module _ (s : List ℕ) (c : Setting) where
  -- the precincts of slice t, whose header stands at the state's place, as a reading takes them
  abbrev pub precincts_of : ℕ → State → Left
  precincts_of t x = precincts s c t (x.0 + slice_header_bytes, x.1, x.2)

  abbrev pub stepped_over : ℕ → State → Verdict × ℕ → Turn State Left
  stepped_over t x (Ok _, to) = go (behind_slice c t to x.1 (precincts_of t x))
  stepped_over t x (Err k, at) = stop (Refused k, x)

  -- slice t of a damaged page: its header and its precincts' lengths are judged first, whatever stands in the precincts
  unfoldable pub damaged_turn : ℕ → State → Turn State Left
  damaged_turn t x = stepped_over t x (walk_slice s c t x.0)

  -- in one mode and in the other
  abbrev pub turn_by : Bool → ℕ → State → Turn State Left
  turn_by false = slice_turn s c
  turn_by true = damaged_turn

  -- from the first slice header at the state's place to the end of the stream
  unfoldable pub stream_by : Bool → State → Left
  stream_by damaged x = run (turn_by damaged) (ended s) (slices c.shape) 0 x

  module _ (x : State) where
    -- behind the first t slices of a damaged page
    abbrev pub before_damaged : ℕ → State
    before_damaged t = before damaged_turn x t

    -- slice t is spoilt: a reading refuses one of its precincts
    unfoldable pub spoilt : ℕ → Bool
    spoilt t = refuses (precincts_of t (before_damaged t)).0
