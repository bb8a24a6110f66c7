-- The walk by declared lengths: what a reading checks outside precincts, and that each precinct ends in the stream. Of a precinct nothing but its
-- length Lprc is looked at: it ends as many bytes behind its header as Lprc says, whatever else it says.
use Rattle.std.specs.Prelude.{ℕ, ◌+◌, ◌-◌, ◌≤◌, ◌≡◌, List, [], ◌∷◌, ◌++◌, length, Ok, Err}
use Rattle.loops.specs.Run.{Turn, go, stop, run}
use Rattle.loops.specs.Before.{before}
use Rattle.loops.specs.Along.{along}
use Rattle.rows.specs.Rows.{check, ample, first, Fine, Refused, Verdict}
use Rattle.rows.specs.declared.Check.{Check}
use Rattle.rows.specs.declared.Row.TheVariants.{Cut, Length}
use Rattle.rows.specs.declared.Field.TheVariants.{Lprc, Precinct as PrecinctField}
use Rattle.bits.specs.Fields.{field_at}
use Rattle.layout.specs.Precincts.{Np, slices}
use Rattle.layout.specs.Headers.{header_bytes_of}
use Rattle.packets.specs.declared.Setting.{Setting}
use Rattle.packets.specs.declared.Precinct.{Precinct}
use Rattle.slices.specs.declared.walk.Walked.{Walked}
use Rattle.slices.specs.Precinct.{precinct_at}
use Rattle.slices.specs.Slice.{slice_header_bytes, slice_checks, row_of, column_in}
use Rattle.slices.specs.Stream.{end_checks}

-- a step goes on to a place, or refuses where it stands
abbrev pub stepped : Verdict → ℕ → ℕ → Turn ℕ (Verdict × ℕ)
stepped (Ok _) at to = go to
stepped (Err k) at to = stop (Refused k, at)

-- a walk goes on to where it ends, or has refused
abbrev pub walked_on : Verdict × ℕ → Turn ℕ (Verdict × ℕ)
walked_on (Ok _, to) = go to
walked_on (Err k, at) = stop (Refused k, at)

module _ (s : List ℕ) (c : Setting) where
  -- Table C.1: where the precinct whose header stands at a place ends
  abbrev pub end_of : ℕ → ℕ
  end_of at = at + header_bytes_of c.shape + field_at s at 24

  -- 'whether a precinct, the rest of its header included, runs past the stream is checked at its length field'
  abbrev pub walk_checks : ℕ → List Check
  walk_checks at =
      check Cut at Lprc (length s - at) 3 ample
      ∷ check Length at PrecinctField (header_bytes_of c.shape + field_at s at 24) 0 (length s - at)
      ∷ []

  unfoldable pub walk_turn : ℕ → ℕ → Turn ℕ (Verdict × ℕ)
  walk_turn n at = stepped (first (walk_checks at)) at (end_of at)

  -- B.11: the precincts of slice t, the first of which stands at a place
  unfoldable pub walk_precincts : ℕ → ℕ → Verdict × ℕ
  walk_precincts t at = run walk_turn (λ y. (Fine, y)) (Np c.shape t) 0 at

  abbrev pub walk_by : Verdict → ℕ → ℕ → Verdict × ℕ
  walk_by (Ok _) t at = walk_precincts t (at + slice_header_bytes)
  walk_by (Err k) t at = (Refused k, at)

  -- A.4.14: slice t, whose header stands at a place
  unfoldable pub walk_slice : ℕ → ℕ → Verdict × ℕ
  walk_slice t at = walk_by (first (slice_checks s t at)) t at

  unfoldable pub walk_slice_turn : ℕ → ℕ → Turn ℕ (Verdict × ℕ)
  walk_slice_turn t at = walked_on (walk_slice t at)

  -- A.2: from the first slice header to the end of the stream
  unfoldable pub walk_stream : ℕ → Verdict × ℕ
  walk_stream at = run walk_slice_turn (λ y. (first (end_checks s y), y + 2)) (slices c.shape) 0 at

  -- where the walk comes to slice t of a stream, whose first slice header stands at a place
  abbrev pub slice_place : ℕ → ℕ → ℕ
  slice_place at t = before walk_slice_turn at t

  -- and to precinct n of a slice, whose header stands at a place
  abbrev pub precinct_place : ℕ → ℕ → ℕ
  precinct_place at n = before walk_turn (at + slice_header_bytes) n

  -- precinct n of slice t, as the walk finds it
  abbrev pub walk_has : ℕ → ℕ → ℕ → Precinct
  walk_has at t n = precinct_at s c (row_of s c t n) (column_in s c t n) (precinct_place (slice_place at t) n)

  -- the checks as one table, in the order in which the walk comes to them
  unfoldable pub walk_slice_table : ℕ → ℕ → List Check
  walk_slice_table t at = slice_checks s t at ++ along walk_turn (λ n y. walk_checks y) (λ y. []) (Np c.shape t) 0 (at + slice_header_bytes)

  unfoldable pub walk_table : ℕ → List Check
  walk_table at = along walk_slice_turn walk_slice_table (λ y. end_checks s y) (slices c.shape) 0 at

-- ---- what is answered. The bound stands beside the value for the callers' sums

pub record WalkTurned (s : List ℕ) (turn : Turn ℕ (Verdict × ℕ)) (r : Walked) : Type 0 where
  pub is : turn ≡ stepped r.verdict r.at r.at
  pub inside : r.verdict ≡ Fine → r.at ≤ length s

pub record Walks (s : List ℕ) (left : Verdict × ℕ) (r : Walked) : Type 0 where
  pub is : left ≡ (r.verdict, r.at)
  pub inside : r.verdict ≡ Fine → r.at ≤ length s
