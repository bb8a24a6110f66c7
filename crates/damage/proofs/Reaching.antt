-- The states that the reading of a damaged page comes to, slice by slice. Assumes nothing.
use Rattle.std.specs.Prelude.{Ok, Err}
use Prim.Native.Nat.{ℕ, ◌+◌, ◌≤◌, ◌<◌}
use mathlib.Core.Path.{◌≡◌, refl, sym, ap, ◌∙◌}
use mathlib.Core.Bool.{true, false}
use mathlib.Core.List.{List}
use native.Mathlib.Omega.{arith}
use Rattle.loops.specs.Run.{go, stop}
use Rattle.loops.specs.Before.{before}
use Rattle.loops.proofs.Before.{Turns, run_turns}
use Rattle.loops.proofs.Follows.{go_same, stop_same, go_stop}
use Rattle.rows.specs.Rows.{first, Fine, Verdict}
use Rattle.layout.specs.Precincts.{Np, slices}
use Rattle.layout.proofs.Members.{true_false}
use Rattle.packets.specs.declared.Setting.{Setting}
use Rattle.slices.specs.Slice.{State, Left, slice_header_bytes, slice_checks, precincts_by, slice}
use Rattle.slices.specs.Stream.{ended}
use Rattle.slices.specs.Walk.{walk_by, walk_slice, slice_place, walk_has}
use Rattle.slices.specs.Reached.{slice_has}
use Rattle.slices.proofs.PrecinctLaws.{clash}
use Rattle.slices.proofs.WalkLaws.{reading_walks}
use Rattle.slices.proofs.WalkHas.{slice_walk_has, states_stand}
use Rattle.damage.specs.Lost.{lose}
use Rattle.damage.specs.Stream.{refuses, behind_slice, precincts_of, stepped_over, damaged_turn, stream_by, before_damaged, spoilt}

-- ---- one slice, at any state

-- where a slice is stepped over and none of its precincts is refused, they end where its declared lengths lead, and the slice is accepted
module _ (s : List ℕ) (c : Setting) (t : ℕ) (x : State) (to : ℕ) where
  pub record Reads (y : State) : Type 0 where
    pub accepted : slice s c t x ≡ (Fine, y)
    pub place : y.0 ≡ to

  pub over_reads : (y : State) → walk_slice s c t x.0 ≡ (Fine, to) → precincts_of s c t x ≡ (Fine, y) → Reads y
  unfolding walk_slice slice
  over_reads y w e = by _ refl w
    where
      by : (v : Verdict) → first (slice_checks s t x.0) ≡ v → walk_by s c v t x.0 ≡ (Fine, to) → Reads y
      by (Ok _) f w =
          let walks = reading_walks s c t (x.0 + slice_header_bytes, x.1, x.2) y e in
          record { accepted = (λ i. precincts_by s c t (f i) x) ∙ e; place = λ i. ((sym walks ∙ w) i).1 }
      by (Err k) f w = clash (λ i. (w i).0)

-- so a slice that is stepped over ends where its declared lengths lead, read or lost
pub behind_place : (s : List ℕ) (c : Setting) (t to : ℕ) (x : State) → walk_slice s c t x.0 ≡ (Fine, to) → (behind_slice c t to x.1 (precincts_of s c t x)).0 ≡ to
behind_place s c t to x w = by (precincts_of s c t x) refl
  where
    by : (r : Left) → precincts_of s c t x ≡ r → (behind_slice c t to x.1 r).0 ≡ to
    by (Ok _, y) e = (over_reads s c t x to y w e).place
    by (Err k, y) e = refl

-- ---- the slices of a damaged page whose walk is accepted

pub over_stops : (s : List ℕ) (c : Setting) (t : ℕ) (x : State) (w : Verdict × ℕ) (r : Left) → stepped_over s c t x w ≡ stop r → r.0 ≡ Fine → ⊥
over_stops s c t x (Ok _, to) r e f = go_stop e
over_stops s c t x (Err k, at) r e f = clash (ap (λ (l : Left). l.0) (stop_same e) ∙ f)

-- the walk of slice t leads to `to`, and what its precincts leave, or lose, is the state before the next
pub record Stepped (s : List ℕ) (c : Setting) (x : State) (t : ℕ) : Type 0 where
  pub to : ℕ
  pub walk : walk_slice s c t (before_damaged s c x t).0 ≡ (Fine, to)
  pub next : before_damaged s c x (t + 1) ≡ behind_slice c t to (before_damaged s c x t).1 (precincts_of s c t (before_damaged s c x t))

module _ (s : List ℕ) (c : Setting) (x : State) (fine : (stream_by s c true x).0 ≡ Fine) where
  damaged_turns : Turns (damaged_turn s c) x (ended s) (slices c.shape)
  unfolding stream_by damaged_turn
  damaged_turns =
      run_turns (damaged_turn s c) x (λ (r : Left). r.0 ≡ Fine) (ended s) (slices c.shape)
      (λ t r. over_stops s c t (before_damaged s c x t) (walk_slice s c t (before_damaged s c x t).0) r) fine

  -- the stream ends behind them and the end marker
  pub damaged_left : stream_by s c true x ≡ ended s (before_damaged s c x (slices c.shape))
  unfolding stream_by
  damaged_left = damaged_turns.ends

  pub stepped : (t : ℕ) → t < slices c.shape → Stepped s c x t
  unfolding damaged_turn
  stepped t l = by (walk_slice s c t (before_damaged s c x t).0) refl (damaged_turns.goes t l)
    where
      by : (w : Verdict × ℕ) → walk_slice s c t (before_damaged s c x t).0 ≡ w → stepped_over s c t (before_damaged s c x t) w ≡ go (before_damaged s c x (t + 1))
          → Stepped s c x t
      by (Ok _, to) f e = record { to = to; walk = f; next = sym (go_same e) }
      by (Err k, at) f e = go_stop (sym e)

  module _ (t : ℕ) (h : t < slices c.shape) where
    abbrev here : State
    here = before_damaged s c x t

    abbrev to : ℕ
    to = (stepped t h).to

    -- a slice that is not spoilt is read
    read : (z : Left) → precincts_of s c t here ≡ z → refuses z.0 ≡ false → Reads s c t here to (behind_slice c t to here.1 z)
    read (Ok _, y) e f = over_reads s c t here to y (stepped t h).walk e
    read (Err k, y) e f = true_false (sym f)

    pub read_slice : spoilt s c x t ≡ false → slice s c t here ≡ (Fine, before_damaged s c x (t + 1))
    unfolding spoilt
    read_slice f = (read (precincts_of s c t here) refl f).accepted ∙ (λ i. (Fine, sym (stepped t h).next i))

    -- and one that is spoilt is lost
    pub lost_slice : spoilt s c x t ≡ true → before_damaged s c x (t + 1) ≡ (to, here.1, lose c.shape t (precincts_of s c t here).1.2)
    unfolding spoilt
    lost_slice f = (stepped t h).next ∙ by (precincts_of s c t here) f
      where
        by : (z : Left) → refuses z.0 ≡ true → behind_slice c t to here.1 z ≡ (to, here.1, lose c.shape t z.1.2)
        by (Ok _, y) f = true_false f
        by (Err k, y) f = refl

    -- the next slice stands where the declared lengths lead
    pub place_is : (before_damaged s c x (t + 1)).0 ≡ to
    place_is = ap (λ (y : State). y.0) (stepped t h).next ∙ behind_place s c t to here (stepped t h).walk

  -- so each stands where the walk comes to it, whether those before it are spoilt or not
  pub damaged_stands : (t : ℕ) → t ≤ slices c.shape → (before_damaged s c x t).0 ≡ slice_place s c x.0 t
  unfolding before
  damaged_stands = states_stand s c (before_damaged s c x) (slices c.shape) (λ t h. (stepped t h).walk ∙ (λ i. (Fine, sym (place_is t h) i)))

  -- and the precincts of one that is not spoilt are those that the walk finds
  pub kept_has : (t : ℕ) → t < slices c.shape → spoilt s c x t ≡ false → (n : ℕ) → n < Np c.shape t → slice_has s c (before_damaged s c x t) t n ≡ walk_has s c x.0 t n
  kept_has t h f =
      slice_walk_has s c x.0 t (before_damaged s c x t) (damaged_stands t (omega arith)) (ap (λ (r : Left). r.0) (read_slice t h f))
