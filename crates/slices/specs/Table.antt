-- The checks of what stands behind the header as one table, in the order in which a reading comes to them: 'Checking runs from the front.' A broken
-- check decides whatever stands behind it; behind a packet, a precinct or a slice that is refused nothing does.
use Rattle.std.specs.Prelude.{ℕ, ◌+◌, Bool, cond, List, [], ◌++◌, ℤ}
use Rattle.loops.specs.Along.{along}
use Rattle.rows.specs.declared.Check.{Check}
use Rattle.layout.specs.Precincts.{Np, slices}
use Rattle.layout.specs.Slots.{slots, candidates}
use Rattle.packets.specs.declared.Setting.{Setting}
use Rattle.packets.specs.Packets.{any_line}
use Rattle.packets.specs.Table.{packet_checks}
use Rattle.slices.specs.Precinct.{precinct_at, header_checks, Packing, packet_turn, rest_checks, body, no_flags}
use Rattle.slices.specs.Slice.{State, slice_header_bytes, slice_checks, row_of, column_in, is_top, precinct_turn}
use Rattle.slices.specs.Stream.{end_checks, slice_turn}

module _ (s : List ℕ) (c : Setting) (row column at : ℕ) where
  -- a slot's packet, at the state's place: 'An empty packet has no header'
  abbrev pub slot_checks : ℕ → Packing s c row column at → List Check
  slot_checks slot x =
      let p = precinct_at s c row column at in
      cond (any_line c p slot (candidates c.shape slot)) (packet_checks s c p slot x.0 x.1 x.2) []

  -- C.2: a precinct's header, its packets, and that they fill it
  unfoldable pub precinct_checks : Bool → List ℤ → List Check
  precinct_checks top cells =
      header_checks s c row column at top
      ++ along (packet_turn s c row column at) slot_checks (λ x. rest_checks s c row column at x.0) (slots c.shape) 0
      (body s c row column at, no_flags s c row column at, cells)

module _ (s : List ℕ) (c : Setting) (t : ℕ) where
  -- precinct n of slice t
  abbrev pub precinct_table : ℕ → State → List Check
  precinct_table n x = precinct_checks s c (row_of s c t n) (column_in s c t n) x.0 (is_top s c t n) x.2

  -- A.4.14: the slice's header and its precincts
  unfoldable pub slice_table : State → List Check
  slice_table x = slice_checks s t x.0 ++ along (precinct_turn s c t) precinct_table (λ y. []) (Np c.shape t) 0 (x.0 + slice_header_bytes, x.1, x.2)

-- A.2: the slices, the end marker, and nothing behind it. The first slice header stands at the state's place
unfoldable pub stream_checks : List ℕ → Setting → State → List Check
stream_checks s c x = along (slice_turn s c) (slice_table s c) (λ y. end_checks s y.0) (slices c.shape) 0 x
