-- What a reading reads stands where the walk by declared lengths finds it: its slices, and their precincts. Assumes nothing.
use Prim.Native.Nat.{ℕ, ◌+◌, ◌≤◌, ◌<◌}
use mathlib.Core.Path.{◌≡◌, refl, sym, ap, ◌∙◌}
use mathlib.Core.List.{List}
use native.Mathlib.Omega.{arith}
use Rattle.loops.specs.Before.{before}
use Rattle.loops.proofs.Before.{before_goes, before_carries}
use Rattle.rows.specs.Rows.{first, Fine}
use Rattle.layout.specs.Precincts.{Np, slices}
use Rattle.packets.specs.declared.Setting.{Setting}
use Rattle.slices.specs.Slice.{State, Left, slice_header_bytes, row_of, column_in, is_top, precinct_turn, slice}
use Rattle.slices.specs.Stream.{stream}
use Rattle.slices.specs.Precinct.{precinct_at}
use Rattle.slices.specs.Reached.{before_precinct, slice_has, before_slice, stream_has}
use Rattle.slices.specs.Walk.{stepped, walked_on, end_of, walk_checks, walk_turn, walk_slice, walk_slice_turn, slice_place, precinct_place, walk_has}
use Rattle.slices.proofs.Reaching.{slice_precinct, stream_slice}
use Rattle.slices.proofs.WalkLaws.{precinct_walks, slice_walks}

module _ (s : List ℕ) (c : Setting) where
  -- ---- one slice

  -- the next slice, and the next precinct, stands where the declared lengths lead
  place_next : (at t : ℕ) {to : ℕ} → walk_slice s c t (slice_place s c at t) ≡ (Fine, to) → slice_place s c at (t + 1) ≡ to
  unfolding walk_slice_turn
  place_next at t e = before_goes (walk_slice_turn s c) at t (λ i. walked_on (e i))

  precinct_next : (at n : ℕ) → first (walk_checks s c (precinct_place s c at n)) ≡ Fine → precinct_place s c at (n + 1) ≡ end_of s c (precinct_place s c at n)
  unfolding walk_turn
  precinct_next at n e = before_goes (walk_turn s c) (at + slice_header_bytes) n (λ i. stepped (e i) (precinct_place s c at n) (end_of s c (precinct_place s c at n)))

  -- where slice t is read from a state, its precincts stand where the walk comes to them
  pub precincts_stand : (t : ℕ) (z : State) → (slice s c t z).0 ≡ Fine → (n : ℕ) → n ≤ Np c.shape t → (before_precinct s c z t n).0 ≡ precinct_place s c z.0 n
  unfolding before
  precincts_stand t z fine n l =
      before_carries (precinct_turn s c t) (z.0 + slice_header_bytes, z.1, z.2) (λ n y. y.0 ≡ precinct_place s c z.0 n) n refl
      (λ g m e.
      let x = before_precinct s c z t g in
      let f = slice_precinct s c t z fine g (omega arith) in
      let walks = precinct_walks s c (row_of s c t g) (column_in s c t g) x.0 (is_top s c t g) x.2 f.accepted in
      ap (λ (y : State). y.0) f.next ∙ (λ i. end_of s c (e i)) ∙ sym (precinct_next z.0 g (rw e at walks)))

  -- and so each is the one that the walk finds, where the slice stands where the walk comes to it
  pub slice_walk_has : (at t : ℕ) (z : State) → z.0 ≡ slice_place s c at t → (slice s c t z).0 ≡ Fine → (n : ℕ) → n < Np c.shape t → slice_has s c z t n ≡ walk_has s c at t n
  slice_walk_has at t z stands fine n l =
      let place = precincts_stand t z fine n (omega arith) ∙ (λ i. precinct_place s c (stands i) n) in
      λ i. precinct_at s c (row_of s c t n) (column_in s c t n) (place i)

  -- ---- states one after the other, from each of which the walk leads to the next

  pub states_stand : (z : ℕ → State) (k : ℕ) → ((t : ℕ) → t < k → walk_slice s c t (z t).0 ≡ (Fine, (z (t + 1)).0)) → (t : ℕ) → t ≤ k → (z t).0 ≡ slice_place s c (z 0).0 t
  unfolding before
  states_stand z k walks t l =
      sym (before_carries (walk_slice_turn s c) (z 0).0 (λ t at. at ≡ (z t).0) t refl
      (λ g m e. place_next (z 0).0 g ((λ i. walk_slice s c g (e i)) ∙ walks g (omega arith))))

  -- ---- an accepted stream

  module _ (x : State) (fine : (stream s c x).0 ≡ Fine) where
    pub stream_stands : (t : ℕ) → t ≤ slices c.shape → (before_slice s c x t).0 ≡ slice_place s c x.0 t
    unfolding before
    stream_stands =
        states_stand (before_slice s c x) (slices c.shape)
        (λ t l. slice_walks s c t (before_slice s c x t) (before_slice s c x (t + 1)) (stream_slice s c x fine t l))

    -- its precincts are those that the walk finds
    pub walk_has_lem : (t : ℕ) → t < slices c.shape → (n : ℕ) → n < Np c.shape t → stream_has s c x t n ≡ walk_has s c x.0 t n
    walk_has_lem t l =
        slice_walk_has x.0 t (before_slice s c x t) (stream_stands t (omega arith)) (ap (λ (r : Left). r.0) (stream_slice s c x fine t l))
