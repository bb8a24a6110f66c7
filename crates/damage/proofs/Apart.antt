-- A sound stream and a damaged one that differ in one slice alone, outside its header and its precincts' lengths. Where the damaged slice is refused, the damaged
-- stream is accepted in the mode, no other slice is spoilt, and what the others leave in their cells is what they leave of the sound stream. Assumes nothing.
use Rattle.std.specs.Prelude.{Ok, Err}
use Prim.Native.Nat.{ℕ, zero, suc, ◌+◌, ◌-◌, ◌*◌, ◌≤◌, ◌<◌}
use mathlib.Core.Path.{◌≡◌, refl, sym, ap, ◌∙◌}
use mathlib.Core.Bool.{true, false}
use mathlib.Core.List.{List, [], ◌∷◌}
use native.Mathlib.Decide.{dec_lt, ℕ_discrete}
use native.Mathlib.Omega.{arith}
use lib.IntN.{ℤ}
use lib.ListN.{length}
use Rattle.whole.specs.Cells.{cell, Same}
use Rattle.loops.specs.Before.{before}
use Rattle.loops.proofs.Laws.{run_carries}
use Rattle.loops.proofs.Before.{before_carries}
use Rattle.rows.specs.Rows.{check, ample, first, Fine, Verdict}
use Rattle.rows.specs.declared.Row.TheVariants.{Cut, Marker}
use Rattle.rows.specs.declared.Field.TheVariants.{Eoc, Tail}
use Rattle.bits.specs.Alike.{Alike}
use Rattle.bits.proofs.Alike.{field_alike}
use Rattle.picture.specs.Markers.{EOC}
use Rattle.layout.specs.Precincts.{Np, slices}
use Rattle.packets.specs.declared.Setting.{Setting}
use Rattle.packets.specs.Ready.{Settled}
use Rattle.packets.proofs.Alike.{WholeHeader}
use Rattle.slices.specs.Slice.{State, Left, slice_header_bytes, slice_checks, precincts_by, slice}
use Rattle.slices.specs.Stream.{end_checks, stream}
use Rattle.slices.specs.Walk.{walk_by, walk_slice, walk_slice_turn, walk_stream, slice_place, precinct_place}
use Rattle.slices.specs.Reached.{before_slice}
use Rattle.slices.proofs.PrecinctLaws.{clash}
use Rattle.slices.proofs.Laws.{slice_length}
use Rattle.slices.proofs.WalkLaws.{slice_ends, slice_walks}
use Rattle.slices.proofs.WalkHas.{stream_stands}
use Rattle.slices.proofs.Alike.{slice_alike, walk_alike}
use Rattle.slices.proofs.Same.{SameLeft}
use Rattle.slices.proofs.Owned.{Owned, slice_local, slice_spares}
use Rattle.slices.proofs.Rows.{InRow, owned_row, row_owned, row_once}
use Rattle.slices.proofs.Reaching.{stream_slice, stream_left}
use Rattle.damage.specs.Lost.{lose}
use Rattle.damage.specs.Stream.{refuses, precincts_of, damaged_turn, stream_by, before_damaged, spoilt}
use Rattle.damage.specs.Apart.{length_bytes, Differing}
use Rattle.damage.proofs.Losses.{lose_length, lose_other}
use Rattle.damage.proofs.Reaching.{damaged_left, stepped, read_slice, lost_slice, place_is}
use Rattle.damage.proofs.Walked.{damaged_walks}

-- ---- one slice, whose walk is accepted

-- a reading of it is one of its precincts, since its header is accepted
walked_slice : (s : List ℕ) (c : Setting) (t : ℕ) (x : State) {to : ℕ} → walk_slice s c t x.0 ≡ (Fine, to) → slice s c t x ≡ precincts_of s c t x
unfolding walk_slice slice
walked_slice s c t x {to} e = by (first (slice_checks s t x.0)) e
  where
    by : (v : Verdict) → walk_by s c v t x.0 ≡ (Fine, to) → precincts_by s c t v x ≡ precincts_of s c t x
    by (Ok _) e = refl
    by (Err k) e = clash (λ i. (e i).0)

-- ---- two streams

-- a state of the damaged stream behind its first g slices: it stands at the same place, and has the same cells of all slices but slice t. The largest T may differ
record Beside (s : List ℕ) (c : Setting) (x : State) (t g : ℕ) (y : State) : Type 0 where
  place : y.0 ≡ (before_slice s c x g).0
  cells : (u : ℕ) → (u ≡ t → ⊥) → Same (Owned c.shape u) (before_slice s c x g).2 y.2

module _ {s s' : List ℕ} (c : Setting) (settled : Settled c) (whole : WholeHeader c) (x : State) (fine : (stream s c x).0 ≡ Fine) {t : ℕ} (h : t < slices c.shape)
    (differ : Differing s s' c x.0 t) where
  -- the states of the sound stream
  abbrev z : ℕ → State
  z g = before_slice s c x g

  reads : (g : ℕ) → g < slices c.shape → slice s c g (z g) ≡ (Fine, z (g + 1))
  reads = stream_slice s c x fine

  walks : (g : ℕ) → g < slices c.shape → walk_slice s c g (z g).0 ≡ (Fine, (z (g + 1)).0)
  walks g l = slice_walks s c g (z g) (z (g + 1)) (reads g l)

  -- its slices stand where its walk comes to them, one behind the other
  walk_place : (g : ℕ) → g ≤ slices c.shape → slice_place s c x.0 g ≡ (z g).0
  walk_place g l = sym (stream_stands s c x fine g l)

  onward : (d g : ℕ) → g + d ≤ slices c.shape → (z g).0 ≤ (z (g + d)).0
  onward zero g l =
      let e : g + 0 ≡ g = omega arith in
      omega (arith, ap (λ (n : ℕ). (z n).0) e)
  onward (suc d) g l =
      let e : g + suc d ≡ g + d + 1 = omega arith in
      let w = slice_ends s c (g + d) (z (g + d)).0 (z (g + d + 1)).0 (walks (g + d) (omega arith)) in
      omega (arith, onward d g (omega arith), w.0, ap (λ (n : ℕ). (z n).0) e)

  later : (a b : ℕ) → a ≤ b → b ≤ slices c.shape → (z a).0 ≤ (z b).0
  later a b m l =
      let e : a + (b - a) ≡ b = omega arith in
      omega (arith, onward (b - a) a (omega arith), ap (λ (n : ℕ). (z n).0) e)

  -- what lies outside slice t is the same
  outside_alike : (a b : ℕ) → b ≤ (z t).0 + slice_header_bytes → Alike s s' a b
  outside_alike a b l = record { long = differ.long; bytes = λ j m n. differ.bytes j (λ i. omega (arith, i.behind, walk_place t (omega arith))) }

  behind_alike : (a b : ℕ) → (z (t + 1)).0 ≤ a → Alike s s' a b
  behind_alike a b l = record { long = differ.long; bytes = λ j m n. differ.bytes j (λ i. omega (arith, i.before, walk_place (t + 1) (omega arith))) }

  other_alike : (g : ℕ) → g < slices c.shape → (g ≡ t → ⊥) → Alike s s' (z g).0 (z (g + 1)).0
  other_alike g l other = by (dec_lt g t)
    where
      by : Dec (g < t) → Alike s s' (z g).0 (z (g + 1)).0
      by (yes k) = outside_alike (z g).0 (z (g + 1)).0 (omega (arith, later (g + 1) t (omega arith) (omega arith)))
      by (no k) = behind_alike (z g).0 (z (g + 1)).0 (later (t + 1) g (omega (arith, other)) (omega arith))

  -- up to and with the first slice header
  pub apart_begins : Alike s s' 0 (x.0 + slice_header_bytes)
  unfolding before
  apart_begins = outside_alike 0 (x.0 + slice_header_bytes) (omega (arith, later 0 t (omega arith) (omega arith)))

  -- so the damaged one has the same slices, but for slice t, and its walk comes to the same places
  reads_alike : (g : ℕ) → g < slices c.shape → (g ≡ t → ⊥) → slice s' c g (z g) ≡ (Fine, z (g + 1))
  reads_alike g l other = slice_alike c settled whole g l (z g) (z (g + 1)) (reads g l) (other_alike g l other)

  walks_alike : (g : ℕ) → g < slices c.shape → walk_slice s' c g (z g).0 ≡ (Fine, (z (g + 1)).0)
  walks_alike g l = by (ℕ_discrete g t)
    where
      own : (at : ℕ) → slice_place s c x.0 t ≡ at → (n : ℕ) → n < Np c.shape t → Alike s s' (precinct_place s c at n) (precinct_place s c at n + length_bytes)
      own at e n m = record { long = differ.long; bytes = λ j a b. differ.bytes j (λ i. let o = i.outside n m in let o' = rw e at o in omega (arith, o' a)) }

      by : Dec (g ≡ t) → walk_slice s' c g (z g).0 ≡ (Fine, (z (g + 1)).0)
      by (yes e) = rw e (walk_alike c t (z t).0 (outside_alike (z t).0 ((z t).0 + slice_header_bytes) (omega arith)) (own (z t).0 (walk_place t (omega arith))) ∙ walks t h)
      by (no other) = slice_walks s' c g (z g) (z (g + 1)) (reads_alike g l other)

  -- and the same end
  ends_alike : first (end_checks s' (z (slices c.shape)).0) ≡ Fine
  ends_alike =
      let n = slices c.shape in
      let a = behind_alike (z n).0 ((z n).0 + 2) (later (t + 1) n (omega arith) (omega arith)) in
      let marker = field_alike a (8 * (z n).0) 16 (omega arith) (omega arith) in
      (λ i. first (check Cut (z n).0 Eoc (a.long i - (z n).0) 2 ample
      ∷ check Marker (z n).0 Eoc (marker i) EOC EOC
      ∷ check Marker ((z n).0 + 2) Tail (a.long i - ((z n).0 + 2)) 0 0
      ∷ []))
      ∙ ap (λ (q : Left). q.0) (sym (stream_left s c x fine)) ∙ fine

  -- so it is accepted in the mode
  pub apart_fine : (stream_by s' c true x).0 ≡ Fine
  unfolding before walk_stream walk_slice_turn
  apart_fine =
      (damaged_walks s' c x).0
      ∙ run_carries (λ g at. at ≡ (z g).0) (λ (r : Verdict × ℕ). r.0 ≡ Fine) (walk_slice_turn s' c) (λ at. (first (end_checks s' at), at + 2)) (slices c.shape)
      (λ at e. (λ i. first (end_checks s' (e i))) ∙ ends_alike) (λ g at l e. rw (e, walks_alike g l) refl) (slices c.shape) 0 x.0 (omega arith) refl

  -- ---- their cells, where slice t of the damaged one is spoilt

  module _ (lost : spoilt s' c x t ≡ true) where
    -- the states of the damaged one
    abbrev z' : ℕ → State
    z' g = before_damaged s' c x g

    module _ (g : ℕ) (l : g < slices c.shape) (beside : Beside s c x t g (z' g)) where
      walks_beside : walk_slice s' c g (z' g).0 ≡ (Fine, (z (g + 1)).0)
      walks_beside = (λ i. walk_slice s' c g (beside.place i)) ∙ walks_alike g l

      place_beside : (z' (g + 1)).0 ≡ (z (g + 1)).0
      place_beside = place_is s' c x apart_fine g l ∙ (λ i. ((sym (stepped s' c x apart_fine g l).walk ∙ walks_beside) i).1)

      -- slice g leaves the cells of the others, of both streams
      spared : (u : ℕ) → (u ≡ t → ⊥) → (g ≡ u → ⊥) → Same (Owned c.shape u) (z (g + 1)).2 (slice s' c g (z' g)).1.2
      spared u v other =
          let e = reads g l in
          let b = beside.cells u v in
          record {
            long = sym (ap (λ (q : Left). length q.1.2) e) ∙ slice_length s c settled g l (z g) ∙ b.long ∙ sym (slice_length s' c settled g l (z' g));
            cells = λ n o.
                sym (ap (λ (q : Left). cell q.1.2 n) e) ∙ slice_spares s c settled u g l other n o (z g) ∙ b.cells n o
                ∙ sym (slice_spares s' c settled u g l other n o (z' g));
          }

      -- and where it is not slice t, it is read of both
      module _ (other : g ≡ t → ⊥) where
        read_same : SameLeft (Owned c.shape g) (slice s' c g (z g)) (slice s' c g (z' g))
        read_same = slice_local s' c settled g l (z g) (z' g) (sym beside.place, beside.cells g other)

        abbrev read_alike : slice s' c g (z g) ≡ (Fine, z (g + 1))
        read_alike = reads_alike g l other

        unspoilt : spoilt s' c x g ≡ false
        unfolding spoilt
        unspoilt =
            ap (λ (q : Left). refuses q.0) (sym (walked_slice s' c g (z' g) walks_beside)) ∙ ap refuses (sym read_same.0)
            ∙ ap (λ (q : Left). refuses q.0) read_alike

        read_cells : (u : ℕ) → (u ≡ t → ⊥) → Same (Owned c.shape u) (z (g + 1)).2 (slice s' c g (z' g)).1.2
        read_cells u v = by (ℕ_discrete g u)
          where
            by : Dec (g ≡ u) → Same (Owned c.shape u) (z (g + 1)).2 (slice s' c g (z' g)).1.2
            by (yes e) = coe 0 1 (i. Same (Owned c.shape (e i)) (read_alike i).1.2 (slice s' c g (z' g)).1.2) read_same.1.1
            by (no e) = spared u v e

        read_beside : Beside s c x t (g + 1) (z' (g + 1))
        read_beside =
            let e = read_slice s' c x apart_fine g l unspoilt in
            record { place = place_beside; cells = λ u v. coe 0 1 (i. Same (Owned c.shape u) (z (g + 1)).2 (e i).1.2) (read_cells u v) }

    -- slice t is lost
    lost_beside : Beside s c x t t (z' t) → Beside s c x t (t + 1) (z' (t + 1))
    lost_beside b =
        let left = (slice s' c t (z' t)).1.2 in
        let e : (z' (t + 1)).2 ≡ lose c.shape t left =
        ap (λ (w : State). w.2) (lost_slice s' c x apart_fine t h lost)
        ∙ ap (λ (q : Left). lose c.shape t q.1.2) (sym (walked_slice s' c t (z' t) (walks_beside t h b))) in
        record {
          place = place_beside t h b;
          cells = λ u v.
              let same = spared t h b u v (λ q. v (sym q)) in
              record {
                long = same.long ∙ sym (lose_length c.shape t left) ∙ sym (ap length e);
                cells = λ n o.
                    same.cells n o
                    ∙ sym (lose_other c.shape settled.shape t left n (λ r. v (row_once c.shape (owned_row c.shape settled.shape o) r)))
                    ∙ sym (ap (λ (q : List ℤ). cell q n) e);
              };
        }

    all_beside : (g : ℕ) → g ≤ slices c.shape → Beside s c x t g (z' g)
    unfolding before
    all_beside g l =
        before_carries (damaged_turn s' c) x (Beside s c x t) g (record { place = refl; cells = λ u v. record { long = refl; cells = λ n o. refl } }) (λ k m b. by k (omega arith) b (ℕ_discrete k t))
      where
        by : (k : ℕ) → k < slices c.shape → Beside s c x t k (z' k) → Dec (k ≡ t) → Beside s c x t (k + 1) (z' (k + 1))
        by k m b (yes e) = coe 1 0 (i. Beside s c x t (e i + 1) (z' (e i + 1))) (lost_beside (coe 0 1 (i. Beside s c x t (e i) (z' (e i))) b))
        by k m b (no e) = read_beside k m b e

    -- no other slice is spoilt
    pub apart_unspoilt : (u : ℕ) → u < slices c.shape → (u ≡ t → ⊥) → spoilt s' c x u ≡ false
    apart_unspoilt u l other = unspoilt u l (all_beside u (omega arith)) other

    -- and their cells are those of the sound stream
    pub apart_cells : (u n : ℕ) → (u ≡ t → ⊥) → InRow c.shape u n → cell (stream_by s' c true x).1.2 n ≡ cell (stream s c x).1.2 n
    apart_cells u n other r =
        ap (λ (q : Left). cell q.1.2 n) (damaged_left s' c x apart_fine)
        ∙ sym (((all_beside (slices c.shape) (omega arith)).cells u other).cells n (row_owned c.shape settled.shape r))
        ∙ sym (ap (λ (q : Left). cell q.1.2 n) (stream_left s c x fine))
