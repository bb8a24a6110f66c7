-- How far the reading has come before each slice and each precinct, and so which precinct it is that is read there. The definitions speak of an
-- accepted stream, and of a refused one up to the slice or precinct that is refused.
use Rattle.std.specs.Prelude.{ℕ, ◌+◌, List, ℤ}
use Rattle.loops.specs.Before.{before}
use Rattle.rows.specs.Rows.{Verdict}
use Rattle.packets.specs.declared.Setting.{Setting}
use Rattle.packets.specs.declared.Precinct.{Precinct}
use Rattle.packets.specs.Packets.{head, packet}
use Rattle.packets.specs.Stored.{stored_m, stored_index}
use Rattle.slices.specs.Precinct.{precinct_at, body, no_flags, Packing, packet_turn, precinct}
use Rattle.slices.specs.Slice.{State, slice_header_bytes, row_of, column_in, is_top, precinct_turn}
use Rattle.slices.specs.Stream.{slice_turn}

-- of a precinct in its row and column, whose header stands at `at`, and with the cells that those before it leave
module _ (s : List ℕ) (c : Setting) (row column at : ℕ) (cells : List ℤ) where
  -- behind its header and its first k slots
  abbrev pub before_packet : ℕ → Packing s c row column at
  before_packet k = before (packet_turn s c row column at) (body s c row column at, no_flags s c row column at, cells) k

  -- what the packet of slot k leaves: the verdict, and the cells
  abbrev pub packet_reads : ℕ → Verdict × List ℤ
  packet_reads k = packet s c (precinct_at s c row column at) k (before_packet k).0 (before_packet k).1 (before_packet k).2

  -- Dr[p,k]
  abbrev pub raw_flag : ℕ → ℕ
  raw_flag k = (head s c (precinct_at s c row column at) k (before_packet k).0).dr

  -- M[p,λ,b,g], and the index of (p, λ, b, ξ), for line j of slot k
  abbrev pub planes_in : ℕ → ℕ → ℕ → ℕ
  planes_in k j g = stored_m s c (precinct_at s c row column at) k (before_packet k).0 (before_packet k).2 j g

  abbrev pub index_in : ℕ → ℕ → ℕ → ℤ
  index_in k j ξ = stored_index s c (precinct_at s c row column at) k (before_packet k).0 (before_packet k).2 j ξ

-- of slice t, whose header stands at the state's place
module _ (s : List ℕ) (c : Setting) (x : State) (t : ℕ) where
  -- behind its header and its first n precincts
  abbrev pub before_precinct : ℕ → State
  before_precinct n = before (precinct_turn s c t) (x.0 + slice_header_bytes, x.1, x.2) n

  -- its precinct n
  abbrev pub slice_has : ℕ → Precinct
  slice_has n = precinct_at s c (row_of s c t n) (column_in s c t n) (before_precinct n).0

  -- what that precinct leaves: the verdict, and the cells
  abbrev pub slice_reads : ℕ → Verdict × List ℤ
  slice_reads n = precinct s c (row_of s c t n) (column_in s c t n) (before_precinct n).0 (is_top s c t n) (before_precinct n).2

  -- Dr of slot k of that precinct
  abbrev pub slice_flag : ℕ → ℕ → ℕ
  slice_flag n = raw_flag s c (row_of s c t n) (column_in s c t n) (before_precinct n).0 (before_precinct n).2

  -- M and the index of line j of slot k of that precinct
  abbrev pub slice_planes : ℕ → ℕ → ℕ → ℕ → ℕ
  slice_planes n = planes_in s c (row_of s c t n) (column_in s c t n) (before_precinct n).0 (before_precinct n).2

  abbrev pub slice_index : ℕ → ℕ → ℕ → ℕ → ℤ
  slice_index n = index_in s c (row_of s c t n) (column_in s c t n) (before_precinct n).0 (before_precinct n).2

-- of a stream, whose first slice header stands at the state's place
module _ (s : List ℕ) (c : Setting) (x : State) where
  -- behind its first t slices
  abbrev pub before_slice : ℕ → State
  before_slice t = before (slice_turn s c) x t

  -- precinct n of its slice t
  abbrev pub stream_has : ℕ → ℕ → Precinct
  stream_has t n = slice_has s c (before_slice t) t n

  -- Dr[p,k] of that precinct
  abbrev pub stream_flag : ℕ → ℕ → ℕ → ℕ
  stream_flag t n = slice_flag s c (before_slice t) t n

  -- M[p,λ,b,g] and the index of (p, λ, b, ξ), for that precinct and line j of its slot k
  abbrev pub stream_planes : ℕ → ℕ → ℕ → ℕ → ℕ → ℕ
  stream_planes t n = slice_planes s c (before_slice t) t n

  abbrev pub stream_index : ℕ → ℕ → ℕ → ℕ → ℕ → ℤ
  stream_index t n = slice_index s c (before_slice t) t n
