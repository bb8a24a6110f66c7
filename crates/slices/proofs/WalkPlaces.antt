-- The places that an accepted walk by declared lengths comes to, slice by slice and precinct by precinct: each is in the stream, and leads to the next.
-- Assumes nothing.
use Rattle.std.specs.Prelude.{Ok, Err}
use Prim.Native.Nat.{ℕ, zero, suc, ◌+◌, ◌≤◌, ◌<◌}
use mathlib.Core.Path.{◌≡◌, refl, sym, ap, ◌∙◌}
use mathlib.Core.List.{List}
use native.Mathlib.Numerals.{add-one}
use native.Mathlib.Omega.{arith}
use lib.ListN.{length}
use Rattle.loops.specs.Run.{go, stop}
use Rattle.loops.specs.Before.{before}
use Rattle.loops.proofs.Before.{Turns, run_turns}
use Rattle.loops.proofs.Follows.{go_same, go_stop}
use Rattle.rows.specs.Rows.{first, Fine, Verdict}
use Rattle.layout.specs.Precincts.{Np, slices}
use Rattle.packets.specs.declared.Setting.{Setting}
use Rattle.slices.specs.Slice.{slice_header_bytes, slice_checks}
use Rattle.slices.specs.Stream.{end_checks}
use Rattle.slices.specs.Walk.{stepped, walked_on, end_of, walk_checks, walk_turn, walk_precincts, walk_by, walk_slice, walk_slice_turn, walk_stream, slice_place, precinct_place}
use Rattle.slices.proofs.PrecinctLaws.{clash}
use Rattle.slices.proofs.SliceLaws.{header_ends}
use Rattle.slices.proofs.Reaching.{stop_refuses}
use Rattle.slices.proofs.WalkLaws.{walk_inside}

-- ---- a step that stops refuses, and so does a walk

step_stops : (v : Verdict) (at to : ℕ) (r : Verdict × ℕ) → stepped v at to ≡ stop r → r.0 ≡ Fine → ⊥
step_stops (Ok _) at to r e f = go_stop e
step_stops (Err k) at to r e f = stop_refuses e f

walk_stops : (w r : Verdict × ℕ) → walked_on w ≡ stop r → r.0 ≡ Fine → ⊥
walk_stops (Ok _, to) r e f = go_stop e
walk_stops (Err k, at) r e f = stop_refuses e f

-- ---- where the walk begins

module _ (s : List ℕ) (c : Setting) (at : ℕ) where
  pub slice_first : slice_place s c at 0 ≡ at
  unfolding before
  slice_first = refl

  pub place_first : precinct_place s c at 0 ≡ at + slice_header_bytes
  unfolding before
  place_first = refl

-- ---- the precincts of a slice, whose header stands at a place

-- precinct n ends in the stream, where the next stands
pub record Ends (s : List ℕ) (c : Setting) (at n : ℕ) : Type 0 where
  pub inside : end_of s c (precinct_place s c at n) ≤ length s
  pub next : precinct_place s c at (n + 1) ≡ end_of s c (precinct_place s c at n)

module _ (s : List ℕ) (c : Setting) (t at : ℕ) (fine : (walk_slice s c t at).0 ≡ Fine) where
  -- the header ends in the stream, and the slice ends where its precincts do
  record Walked : Type 0 where
    pub header : at + slice_header_bytes ≤ length s
    pub goes : Turns (walk_turn s c) (at + slice_header_bytes) (λ y. (Fine, y)) (Np c.shape t)
    pub ends : (walk_slice s c t at).1 ≡ precinct_place s c at (Np c.shape t)

  walked : Walked
  unfolding walk_slice walk_precincts walk_turn
  walked = by (first (slice_checks s t at)) refl fine
    where
      by : (v : Verdict) → first (slice_checks s t at) ≡ v → (walk_by s c v t at).0 ≡ Fine → Walked
      by (Ok _) h e =
          let q =
          run_turns (walk_turn s c) (at + slice_header_bytes) (λ (r : Verdict × ℕ). r.0 ≡ Fine) (λ y. (Fine, y)) (Np c.shape t)
          (λ n r. step_stops (first (walk_checks s c (precinct_place s c at n))) (precinct_place s c at n) (end_of s c (precinct_place s c at n)) r) e in
          record { header = header_ends s t at h; goes = q; ends = (λ i. (walk_by s c (h i) t at).1) ∙ ap (λ (r : Verdict × ℕ). r.1) q.ends }
      by (Err k) h e = clash e

  pub walk_header : at + slice_header_bytes ≤ length s
  walk_header = walked.header

  pub walk_left : (walk_slice s c t at).1 ≡ precinct_place s c at (Np c.shape t)
  walk_left = walked.ends

  pub walk_precinct : (n : ℕ) → n < Np c.shape t → Ends s c at n
  unfolding walk_turn
  walk_precinct n l = by (first (walk_checks s c (precinct_place s c at n))) refl (walked.goes.goes n l)
    where
      by : (v : Verdict) → first (walk_checks s c (precinct_place s c at n)) ≡ v
          → stepped v (precinct_place s c at n) (end_of s c (precinct_place s c at n)) ≡ go (precinct_place s c at (n + 1)) → Ends s c at n
      by (Ok _) h e = record { inside = walk_inside s c (precinct_place s c at n) h; next = sym (go_same e) }
      by (Err k) h e = go_stop (sym e)

  -- the places of the precincts are in the stream, and so is the place behind them
  pub place_inside : (n : ℕ) → n ≤ Np c.shape t → precinct_place s c at n ≤ length s
  place_inside zero h = omega (arith, place_first s c at, walk_header)
  place_inside (suc n) h =
      let q = walk_precinct n (omega arith) in
      rw (← add-one n) (omega (arith, q.next, q.inside))

-- ---- the slices of a stream, whose first slice header stands at a place

module _ (s : List ℕ) (c : Setting) (at : ℕ) where
  -- each is accepted, and ends where the next stands
  pub walk_slice_lem : (walk_stream s c at).0 ≡ Fine → (t : ℕ) → t < slices c.shape → walk_slice s c t (slice_place s c at t) ≡ (Fine, slice_place s c at (t + 1))
  unfolding walk_stream walk_slice_turn
  walk_slice_lem fine t l =
      let q =
      run_turns (walk_slice_turn s c) at (λ (r : Verdict × ℕ). r.0 ≡ Fine) (λ y. (first (end_checks s y), y + 2)) (slices c.shape)
      (λ g r. walk_stops (walk_slice s c g (slice_place s c at g)) r) fine in
      by (walk_slice s c t (slice_place s c at t)) (q.goes t l)
    where
      by : (w : Verdict × ℕ) → walked_on w ≡ go (slice_place s c at (t + 1)) → w ≡ (Fine, slice_place s c at (t + 1))
      by (Ok _, to) e = λ i. (Fine, go_same e i)
      by (Err k, to) e = go_stop (sym e)
