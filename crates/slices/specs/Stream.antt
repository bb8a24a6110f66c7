-- A.2, Table A.1: the slices, the end marker, and nothing behind it.
use Rattle.std.specs.Prelude.{ℕ, ◌+◌, ◌-◌, List, [], ◌∷◌, length, Ok, Err}
use Rattle.loops.specs.Run.{Turn, go, stop, run}
use Rattle.rows.specs.Rows.{check, ample, first, Refused}
use Rattle.rows.specs.declared.Check.{Check}
use Rattle.rows.specs.declared.Row.TheVariants.{Cut, Marker}
use Rattle.rows.specs.declared.Field.TheVariants.{Eoc, Tail}
use Rattle.bits.specs.Fields.{field_at}
use Rattle.picture.specs.Markers.{EOC}
use Rattle.layout.specs.Precincts.{slices}
use Rattle.packets.specs.declared.Setting.{Setting}
use Rattle.slices.specs.Slice.{State, Left, slice}

-- the end marker, and 'bytes after the end marker are answered at the first of them'
abbrev pub end_checks : List ℕ → ℕ → List Check
end_checks s at =
    check Cut at Eoc (length s - at) 2 ample
    ∷ check Marker at Eoc (field_at s at 16) EOC EOC
    ∷ check Marker (at + 2) Tail (length s - (at + 2)) 0 0
    ∷ []

abbrev pub sliced : Left → Turn State Left
sliced (Ok _, x) = go x
sliced (Err k, x) = stop (Refused k, x)

unfoldable pub slice_turn : List ℕ → Setting → ℕ → State → Turn State Left
slice_turn s c t x = sliced (slice s c t x)

abbrev pub ended : List ℕ → State → Left
ended s x = (first (end_checks s x.0), (x.0 + 2, x.1, x.2))

-- from the first slice header at the state's place to the end of the stream
unfoldable pub stream : List ℕ → Setting → State → Left
stream s c x = run (slice_turn s c) (ended s) (slices c.shape) 0 x
