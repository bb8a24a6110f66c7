-- Document 01, distance rule 1: what an accepted stream leaves for a band is the largest T of the precincts that hold it, no more and no less. Assumes nothing.
use Prim.Native.Nat.{ℕ, ◌+◌, ◌≤◌, ◌<◌}
use mathlib.Core.Path.{◌≡◌, refl, ap, ◌∙◌}
use mathlib.Core.Bool.{true}
use mathlib.Core.List.{List}
use native.Mathlib.Decide.{dec_lt}
use native.Mathlib.Omega.{arith}
use lib.ListN.{length, get_or}
use Rattle.loops.proofs.Before.{before_carries}
use Rattle.rows.specs.Rows.{Fine}
use Rattle.layout.specs.Bands.{NL}
use Rattle.layout.specs.Precincts.{Np, slices}
use Rattle.packets.specs.declared.Setting.{Setting}
use Rattle.packets.specs.Precincts.{T}
use Rattle.slices.specs.Precinct.{holds, raised}
use Rattle.slices.specs.Slice.{State, Left, slice_header_bytes, precinct_turn, slice}
use Rattle.slices.specs.Stream.{slice_turn, stream}
use Rattle.slices.specs.Reached.{before_precinct, slice_has, before_slice, stream_has}
use Rattle.slices.proofs.Laws.{raised_length, raised_up, raised_holds, raised_most, slice_tops_length, slice_tops_up}
use Rattle.slices.proofs.Reaching.{slice_precinct, slice_left, stream_slice, stream_left}

-- ---- no more

module _ (s : List ℕ) (c : Setting) (b m : ℕ) where
  abbrev Most : ℕ → State → Type 0
  Most g z = get_or z.1 b 0 ≤ m

  -- of slice t, whose header stands at the state's place
  pub slice_most : (t : ℕ) (from : State) → (slice s c t from).0 ≡ Fine
      → ((n : ℕ) → n < Np c.shape t → b < NL c.shape → holds c (slice_has s c from t n) b ≡ true → T c (slice_has s c from t n) b ≤ m)
      → get_or from.1 b 0 ≤ m → get_or (slice s c t from).1.1 b 0 ≤ m
  slice_most t from fine own h =
      rw (slice_left s c t from fine)
      (before_carries (precinct_turn s c t) (from.0 + slice_header_bytes, from.1, from.2) Most (Np c.shape t) h
      (λ n l q.
      rw (slice_precinct s c t from fine n l).next
      (raised_most c (slice_has s c from t n) (NL c.shape) b (before_precinct s c from t n).1 (own n l) q)))

  -- of the stream
  pub tops_most : (from : State) → (stream s c from).0 ≡ Fine
      → ((t : ℕ) → t < slices c.shape → (n : ℕ) → n < Np c.shape t → b < NL c.shape → holds c (stream_has s c from t n) b ≡ true
      → T c (stream_has s c from t n) b ≤ m)
      → get_or from.1 b 0 ≤ m → get_or (stream s c from).1.1 b 0 ≤ m
  tops_most from fine own h =
      rw (stream_left s c from fine)
      (before_carries (slice_turn s c) from Most (slices c.shape) h
      (λ t l q.
      let r = stream_slice s c from fine t l in
      rw (← ap (λ (z : Left). z.1) r) (slice_most t (before_slice s c from t) (ap (λ (z : Left). z.0) r) (own t l) q)))

-- ---- no less

module _ (s : List ℕ) (c : Setting) (b : ℕ) (below : b < NL c.shape) where
  -- precinct n of slice t, whose header stands at the state's place
  module _ (t : ℕ) (from : State) (fine : (slice s c t from).0 ≡ Fine) (long : b < length from.1) (n : ℕ) (l : n < Np c.shape t) (held : holds c (slice_has s c from t n) b ≡ true) where
    abbrev Kept : ℕ → State → Type 0
    Kept g z = (length z.1 ≡ length from.1) × (n < g → T c (slice_has s c from t n) b ≤ get_or z.1 b 0)

    kept : (g : ℕ) → g < Np c.shape t → Dec (n < g) → Kept g (before_precinct s c from t g) → Kept (g + 1) (before_precinct s c from t (g + 1))
    kept g m (yes before) q =
        let tops = (before_precinct s c from t g).1 in
        let p = slice_has s c from t g in
        rw (slice_precinct s c t from fine g m).next
        (raised_length c p (NL c.shape) tops ∙ q.0, λ u. omega (arith, q.0, q.1 before, raised_up c p (NL c.shape) b tops (omega (arith, q.0))))
    kept g m (no after) q =
        let tops = (before_precinct s c from t g).1 in
        let p = slice_has s c from t g in
        rw (slice_precinct s c t from fine g m).next
        (raised_length c p (NL c.shape) tops ∙ q.0, λ u. own (omega arith))
      where
        own : n ≡ g → T c (slice_has s c from t n) b ≤ get_or (raised c (slice_has s c from t g) (NL c.shape) (before_precinct s c from t g).1) b 0
        own e = rw (← e) (raised_holds c (slice_has s c from t n) (NL c.shape) b (before_precinct s c from t n).1 below (omega (arith, ap (λ (m : ℕ). length (before_precinct s c from t m).1) e, q.0)) held)

    pub slice_holds : T c (slice_has s c from t n) b ≤ get_or (slice s c t from).1.1 b 0
    slice_holds =
        rw (slice_left s c t from fine)
        ((before_carries (precinct_turn s c t) (from.0 + slice_header_bytes, from.1, from.2) Kept (Np c.shape t) (refl, λ u. absurd (omega arith))
        (λ g m q. kept g m (dec_lt n g) q)).1 l)

  -- precinct n of slice t of the stream
  module _ (from : State) (fine : (stream s c from).0 ≡ Fine) (long : b < length from.1) (t : ℕ) (k : t < slices c.shape) (n : ℕ) (l : n < Np c.shape t)
      (held : holds c (stream_has s c from t n) b ≡ true) where
    abbrev KeptIn : ℕ → State → Type 0
    KeptIn g z = (length z.1 ≡ length from.1) × (t < g → T c (stream_has s c from t n) b ≤ get_or z.1 b 0)

    kept_in : (g : ℕ) → g < slices c.shape → Dec (t < g) → KeptIn g (before_slice s c from g) → KeptIn (g + 1) (before_slice s c from (g + 1))
    kept_in g m (yes before) q =
        let z = before_slice s c from g in
        rw (← ap (λ (r : Left). r.1) (stream_slice s c from fine g m))
        (slice_tops_length s c g z ∙ q.0, λ u. omega (arith, q.1 before, slice_tops_up s c g z b (omega (arith, q.0))))
    kept_in g m (no after) q =
        let z = before_slice s c from g in
        rw (← ap (λ (r : Left). r.1) (stream_slice s c from fine g m))
        (slice_tops_length s c g z ∙ q.0, λ u. own (omega arith))
      where
        own : t ≡ g → T c (stream_has s c from t n) b ≤ get_or (slice s c g (before_slice s c from g)).1.1 b 0
        own e =
            rw (← e)
            (slice_holds t (before_slice s c from t) (ap (λ (r : Left). r.0) (stream_slice s c from fine t k))
            (omega (arith, ap (λ (m : ℕ). length (before_slice s c from m).1) e, q.0)) n l held)

    pub tops_hold : T c (stream_has s c from t n) b ≤ get_or (stream s c from).1.1 b 0
    tops_hold =
        rw (stream_left s c from fine)
        ((before_carries (slice_turn s c) from KeptIn (slices c.shape) (refl, λ u. absurd (omega arith)) (λ g m q. kept_in g m (dec_lt t g) q)).1 k)
