-- What the stream leaves in the mode of damaged pages, accepted or refused: as many cells, their size, and the largest T. Assumes nothing.
use Rattle.std.specs.Prelude.{Ok, Err}
use Prim.Native.Nat.{ℕ, zero, suc, ◌+◌, ◌^◌, ◌≤◌, ◌<◌}
use mathlib.Core.Path.{◌≡◌, refl, ap, ◌∙◌}
use mathlib.Core.Bool.{Bool, true, false, cond}
use mathlib.Core.List.{List}
use native.Mathlib.Omega.{arith}
use lib.IntN.{ℤ, pos, nat_abs}
use lib.ListN.{length, get_or}
use lib.Pow.{pow_mono}
use Rattle.whole.specs.Cells.{cell, Bounded}
use Rattle.loops.proofs.Laws.{Kept, run_keeps}
use Rattle.loops.proofs.Before.{before_carries}
use Rattle.rows.specs.Rows.{Fine, Verdict}
use Rattle.layout.specs.declared.Shape.{Shape}
use Rattle.layout.specs.Built.{Built}
use Rattle.layout.specs.Bands.{NL}
use Rattle.layout.specs.Precincts.{Np, slices}
use Rattle.packets.specs.declared.Setting.{Setting}
use Rattle.packets.specs.declared.Precinct.{Precinct}
use Rattle.packets.specs.Precincts.{T}
use Rattle.packets.specs.Ready.{Settled}
use Rattle.slices.specs.Precinct.{holds, raised}
use Rattle.slices.specs.Slice.{State, Left, slice_header_bytes}
use Rattle.slices.specs.Stream.{ended}
use Rattle.slices.specs.Walk.{walk_slice}
use Rattle.slices.specs.Reached.{slice_has}
use Rattle.slices.proofs.Laws.{PacketsKeep, precincts_keeps, length_kept, bounded_kept, Few, raised_few, precincts_tops}
use Rattle.slices.proofs.Largest.{slice_most}
use Rattle.damage.specs.Lost.{in_slice, lost_count, lost_cell, lose_before, lose}
use Rattle.damage.specs.Stream.{behind_slice, precincts_of, stepped_over, damaged_turn, stream_by, before_damaged, spoilt}
use Rattle.whole.proofs.Passes.{map_at_at}
use Rattle.damage.proofs.Losses.{before_length, lose_length}
use Rattle.damage.proofs.Reaching.{damaged_left, read_slice, lost_slice}

-- ---- what the precincts of a slice keep, and the loss of one, the stream keeps

module _ (s : List ℕ) (c : Setting) (P : State → Type 0)
    (reads : (t : ℕ) (x : State) → t < slices c.shape → P x → P (precincts_of s c t x).1)
    (loses : (t to : ℕ) (x y : State) → P x → P y → P (to, x.1, lose c.shape t y.2)) where
  pub damaged_turn_keeps : (t : ℕ) (x : State) → t < slices c.shape → P x → Kept P (λ (r : Left). P r.1) (damaged_turn s c t x)
  unfolding damaged_turn
  damaged_turn_keeps t x l h = by (walk_slice s c t x.0)
    where
      behind : (to : ℕ) (r : Left) → P r.1 → P (behind_slice c t to x.1 r)
      behind to (Ok _, y) k = k
      behind to (Err q, y) k = loses t to x y h k

      by : (w : Verdict × ℕ) → Kept P (λ (r : Left). P r.1) (stepped_over s c t x w)
      by (Ok _, to) = behind to (precincts_of s c t x) (reads t x l h)
      by (Err k, at) = h

  pub damaged_keeps : ((x : State) → P x → P (ended s x).1) → (x : State) → P x → P (stream_by s c true x).1
  unfolding stream_by
  damaged_keeps ends x h =
      run_keeps P (λ (r : Left). P r.1) (damaged_turn s c) (ended s) (slices c.shape) ends damaged_turn_keeps (slices c.shape) 0 x (omega arith) h

-- where that is said of the cells alone, or of the largest T alone
module _ (s : List ℕ) (c : Setting) where
  pub damaged_cells : (P : List ℤ → Type 0) → Built c.shape → ((t : ℕ) → PacketsKeep s c P t) → ((t : ℕ) (l : List ℤ) → P l → P (lose c.shape t l))
      → (x : State) → P x.2 → P (stream_by s c true x).1.2
  damaged_cells P built kept lost =
      damaged_keeps s c (λ (x : State). P x.2) (λ t x l h. precincts_keeps s c P built t l (kept t) (x.0 + slice_header_bytes, x.1, x.2) h)
      (λ t to x y p q. lost t y.2 q) (λ x h. h)

  pub damaged_tops : (P : List ℕ → Type 0) → ((p : Precinct) (tops : List ℕ) → P tops → P (raised c p (NL c.shape) tops))
      → (x : State) → P x.1 → P (stream_by s c true x).1.1
  damaged_tops P kept =
      damaged_keeps s c (λ (x : State). P x.1) (λ t x l h. precincts_tops s c P kept t (x.0 + slice_header_bytes, x.1, x.2) h) (λ t to x y p q. p) (λ x h. h)

-- ---- the size of what a loss leaves

module _ (s : Shape) (t : ℕ) {B : ℕ} (some : 1 ≤ B) where
  lost_cell_bounded : (i n : ℕ) (v : ℤ) → nat_abs v ≤ B → nat_abs (lost_cell s t i n v) ≤ B
  lost_cell_bounded i n v h = by (in_slice s t i _ n) (in_slice s t i _ n)
    where
      by : (a b : Bool) → nat_abs (cond a (pos 0) (cond b lost_count v)) ≤ B
      by true b = omega arith
      by false true = some
      by false false = h

  before_bounded : (i : ℕ) (l : List ℤ) → Bounded B l → Bounded B (lose_before s t i l)
  unfolding lose_before
  before_bounded zero l h = h
  before_bounded (suc i) l h = record { most = λ n k. each n (omega (arith, k, before_length s t (suc i) l, before_length s t i l)) (before_bounded i l h) }
    where
      each : (n : ℕ) → n < length (lose_before s t i l) → Bounded B (lose_before s t i l) → nat_abs (cell (lose_before s t (suc i) l) n) ≤ B
      each n k h = rw (map_at_at (lost_cell s t i) (lose_before s t i l) n (pos 0) k) (lost_cell_bounded i n (cell (lose_before s t i l) n) (h.most n k))

  pub lose_bounded : (l : List ℤ) → Bounded B l → Bounded B (lose s t l)
  lose_bounded = before_bounded s.nc

-- ---- the cells, and where an accepted page ends

module _ (s : List ℕ) (c : Setting) where
  module _ (settled : Settled c) where
    pub damaged_length : (x : State) → length (stream_by s c true x).1.2 ≡ length x.2
    damaged_length x =
        damaged_cells s c (λ z. length z ≡ length x.2) settled.shape (length_kept s c settled (length x.2)) (λ t l e. lose_length c.shape t l ∙ e) x refl

    pub damaged_bounded : {B : ℕ} → 2 ^ (31 + c.fq) ≤ B → (x : State) → Bounded B x.2 → Bounded B (stream_by s c true x).1.2
    damaged_bounded {B} most =
        damaged_cells s c (Bounded B) settled.shape (bounded_kept s c settled most)
        (λ t. lose_bounded c.shape t (omega (arith, most, pow_mono {i = 0} {j = 31 + c.fq} (omega arith))))

    pub damaged_few : (x : State) → Few x.1 → Few (stream_by s c true x).1.1
    damaged_few = damaged_tops s c Few (λ p. raised_few c p settled (NL c.shape))

-- ---- document 02, C-15: the largest T are those of the slices that are not spoilt

module _ (s : List ℕ) (c : Setting) (b m : ℕ) where
  -- one that is at most m stays so, if the precincts of such slices have no larger T where they hold the band. So that of a band which none of them holds stays
  pub damaged_tops_most : (x : State) → (stream_by s c true x).0 ≡ Fine
      → ((t : ℕ) → t < slices c.shape → spoilt s c x t ≡ false → (n : ℕ) → n < Np c.shape t → b < NL c.shape
      → holds c (slice_has s c (before_damaged s c x t) t n) b ≡ true → T c (slice_has s c (before_damaged s c x t) t n) b ≤ m)
      → get_or x.1 b 0 ≤ m → get_or (stream_by s c true x).1.1 b 0 ≤ m
  damaged_tops_most x fine own h =
      rw (damaged_left s c x fine)
      (before_carries (damaged_turn s c) x (λ t (z : State). get_or z.1 b 0 ≤ m) (slices c.shape) h (λ t l q. by t l q (spoilt s c x t) refl))
    where
      by : (t : ℕ) → t < slices c.shape → get_or (before_damaged s c x t).1 b 0 ≤ m → (e : Bool) → spoilt s c x t ≡ e
          → get_or (before_damaged s c x (t + 1)).1 b 0 ≤ m
      by t l q true e = rw (lost_slice s c x fine t l e) q
      by t l q false e =
          let r = read_slice s c x fine t l e in
          rw (← ap (λ (z : Left). z.1) r) (slice_most s c b m t (before_damaged s c x t) (ap (λ (z : Left). z.0) r) (own t l e) q)
