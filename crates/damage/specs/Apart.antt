-- Document 02, C-15: 'a sound stream and a damaged one of equal length differ only in one slice, outside precinct lengths and slice headers'. Where the slices and
-- their precincts stand is told by the walk of the sound stream.
use Rattle.std.specs.Prelude.{ℕ, ◌+◌, ◌≤◌, ◌<◌, ◌≡◌, List, length, get_or}
use Rattle.layout.specs.Precincts.{Np}
use Rattle.packets.specs.declared.Setting.{Setting}
use Rattle.slices.specs.Slice.{slice_header_bytes}
use Rattle.slices.specs.Walk.{slice_place, precinct_place}

-- Table C.1: Lprc is the first three bytes of a precinct
abbrev pub length_bytes : ℕ
length_bytes = 3

-- place j of a sound stream, whose first slice header stands at `at`, lies in slice t, behind its header and outside the lengths of its precincts
pub record Inner (s : List ℕ) (c : Setting) (at t j : ℕ) : Type 0 where
  pub behind : slice_place s c at t + slice_header_bytes ≤ j
  pub before : j < slice_place s c at (t + 1)
  pub outside : (n : ℕ) → n < Np c.shape t → precinct_place s c (slice_place s c at t) n ≤ j → precinct_place s c (slice_place s c at t) n + length_bytes ≤ j

-- s is the sound stream, and s' the damaged one
pub record Differing (s s' : List ℕ) (c : Setting) (at t : ℕ) : Type 0 where
  pub long : length s' ≡ length s
  pub bytes : (j : ℕ) → (Inner s c at t j → ⊥) → get_or s' j 0 ≡ get_or s j 0
