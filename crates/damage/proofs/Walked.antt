-- The verdict of a damaged page is that of the walk by declared lengths, whatever stands in the precincts; and an accepted page is left as it is. Assumes nothing.
use Rattle.std.specs.Prelude.{Ok, Err}
use Prim.Native.Nat.{ℕ, ◌+◌, ◌≤◌, ◌<◌}
use mathlib.Core.Path.{◌≡◌, refl, sym, ◌∙◌}
use mathlib.Core.Bool.{true, false}
use mathlib.Core.List.{List}
use native.Mathlib.Omega.{arith}
use lib.ListN.{length}
use Rattle.loops.specs.Run.{go, stop}
use Rattle.loops.specs.Before.{before}
use Rattle.loops.proofs.Laws.{Going, begins, goes_on, stops, ends, Kept, run_carries}
use Rattle.loops.proofs.Before.{before_carries}
use Rattle.loops.proofs.Follows.{stop_same, go_stop, run_follows}
use Rattle.rows.specs.Rows.{first, answer, Fine, Verdict}
use Rattle.rows.proofs.Sites.{Inside}
use Rattle.layout.specs.Precincts.{slices}
use Rattle.packets.specs.declared.Setting.{Setting}
use Rattle.slices.specs.Slice.{State, Left, slice_checks, precincts_by, slice}
use Rattle.slices.specs.Stream.{end_checks, sliced, slice_turn, ended, stream}
use Rattle.slices.specs.Walk.{walked_on, walk_slice, walk_slice_turn, walk_stream, walk_table}
use Rattle.slices.specs.Reached.{before_slice}
use Rattle.slices.proofs.PrecinctLaws.{clash}
use Rattle.slices.proofs.Reaching.{stream_slice}
use Rattle.slices.proofs.WalkLaws.{walk_table_lem, slice_walks}
use Rattle.slices.proofs.WalkAnswers.{walk_stream_inside, walk_answer}
use Rattle.damage.specs.Stream.{refuses, behind_slice, precincts_of, stepped_over, damaged_turn, stream_by, before_damaged, spoilt}
use Rattle.damage.proofs.Reaching.{behind_place, stepped}

module _ (s : List ℕ) (c : Setting) where
  -- ---- the walk

  -- the verdict is that of the walk, and so is the place where nothing is refused
  pub damaged_walks : (x : State) → ((stream_by s c true x).0 ≡ (walk_stream s c x.0).0) × ((stream_by s c true x).0 ≡ Fine → (stream_by s c true x).1.0 ≡ (walk_stream s c x.0).1)
  unfolding stream_by damaged_turn walk_stream walk_slice_turn
  damaged_walks x =
      run_carries (λ t (y : State). Walking t y.0) Alike (damaged_turn s c) (ended s) (slices c.shape) at_end
      (λ t y l g. by t y l g (walk_slice s c t y.0) refl) (slices c.shape) 0 x (omega arith) begins
    where
      Walking : ℕ → ℕ → Type 0
      Walking t at = Going (walk_slice_turn s c) (λ y. (first (end_checks s y), y + 2)) (slices c.shape) x.0 t at

      Alike : Left → Type 0
      Alike r = (r.0 ≡ (walk_stream s c x.0).0) × (r.0 ≡ Fine → r.1.0 ≡ (walk_stream s c x.0).1)

      at_end : (y : State) → Walking (slices c.shape) y.0 → Alike (ended s y)
      at_end y g =
          let e = ends g (omega arith) in
          ((λ i. (sym e i).0), λ f i. (sym e i).1)

      by : (t : ℕ) (y : State) → t < slices c.shape → Walking t y.0 → (w : Verdict × ℕ) → walk_slice s c t y.0 ≡ w
          → Kept (λ (z : State). Walking (t + 1) z.0) Alike (stepped_over s c t y w)
      by t y l g (Ok _, to) e = rw (behind_place s c t to y e) (goes_on g l (λ i. walked_on (e i)))
      by t y l g (Err k, at) e =
          let q = stops g l (λ i. walked_on (e i)) in
          ((λ i. (sym q i).0), λ f. clash f)

  pub damaged_table : (x : State) → (stream_by s c true x).0 ≡ first (walk_table s c x.0)
  damaged_table x = (damaged_walks x).0 ∙ walk_table_lem s c x.0

  -- what is refused is refused in the stream
  pub damaged_inside : (x : State) → x.0 ≤ length s → Inside (length s) (stream_by s c true x).0
  damaged_inside x h = rw (damaged_walks x).0 (walk_stream_inside s c x.0 h)

  -- no page is answered 7 or 8
  pub damaged_answer : (x : State) → answer (stream_by s c true x).0 ≤ 6
  damaged_answer x = rw (damaged_walks x).0 (walk_answer s c x.0)

  -- ---- a page that a reading accepts

  -- a slice that is accepted is not spoilt, and is left as a reading leaves it
  pub record Sound (t : ℕ) (x y : State) : Type 0 where
    pub reads : precincts_of s c t x ≡ (Fine, y)
    pub turn : damaged_turn s c t x ≡ go y

  pub sound : (t : ℕ) (x y : State) → slice s c t x ≡ (Fine, y) → Sound t x y
  unfolding slice damaged_turn
  sound t x y e = by (first (slice_checks s t x.0)) e
    where
      by : (v : Verdict) → precincts_by s c t v x ≡ (Fine, y) → Sound t x y
      by (Ok _) f = record { reads = f; turn = (λ i. stepped_over s c t x (slice_walks s c t x y e i)) ∙ (λ i. go (behind_slice c t y.0 x.1 (f i))) }
      by (Err k) f = clash (λ i. (f i).0)

  module _ (x y : State) (e : stream s c x ≡ (Fine, y)) where
    pub damaged_same : stream_by s c true x ≡ (Fine, y)
    unfolding stream_by stream slice_turn
    damaged_same =
        run_follows (λ (z : State). Unit {0}) (Fine, y) (slice_turn s c) (damaged_turn s c) (ended s) (ended s) (slices c.shape) (λ z p f. f)
        (λ t z l p. never (slice s c t z)) (λ t left z w l p f g. (goes t z w (slice s c t z) refl f, tt)) (slices c.shape) 0 x (omega arith) tt e
      where
        never : {A : Type 0} (r : Left) → sliced r ≡ stop (Fine, y) → A
        never (Ok _, z) f = go_stop f
        never (Err k, z) f = clash (λ i. (stop_same f i).0)

        goes : (t : ℕ) (z w : State) (r : Left) → slice s c t z ≡ r → sliced r ≡ go w → damaged_turn s c t z ≡ go w
        goes t z w (Ok _, u) q f = (sound t z u q).turn ∙ f
        goes t z w (Err k, u) q f = go_stop (sym f)

    abbrev fine : (stream s c x).0 ≡ Fine
    fine = λ i. (e i).0

    -- it comes to the same states
    pub damaged_states : (t : ℕ) → t ≤ slices c.shape → before_damaged s c x t ≡ before_slice s c x t
    unfolding before
    damaged_states t h =
        before_carries (damaged_turn s c) x (λ t (z : State). z ≡ before_slice s c x t) t refl
        (λ g l q.
        let step = stepped s c x (λ i. (damaged_same i).0) g (omega arith) in
        let own = (sound g _ _ (stream_slice s c x fine g (omega arith))).reads in
        step.next ∙ (λ i. behind_slice c g step.to (q i).1 (precincts_of s c g (q i))) ∙ (λ i. behind_slice c g step.to (before_slice s c x g).1 (own i)))

    -- and no slice is spoilt
    pub damaged_unspoilt : (t : ℕ) → t < slices c.shape → spoilt s c x t ≡ false
    unfolding spoilt
    damaged_unspoilt t l =
        (λ i. refuses (precincts_of s c t (damaged_states t (omega arith) i)).0) ∙ (λ i. refuses ((sound t _ _ (stream_slice s c x fine t l)).reads i).0)
