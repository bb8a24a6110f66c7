-- What the reading of a damaged page leaves at its end: of a spoilt slice nothing, and of every other slice what it leaves by itself. Assumes nothing.
use Prim.Native.Nat.{ℕ, zero, suc, ◌+◌, ◌*◌, ◌≤◌, ◌<◌}
use mathlib.Core.Path.{◌≡◌, refl, sym, ap, ◌∙◌}
use mathlib.Core.Bool.{Bool, true, false}
use mathlib.Core.List.{List}
use mathlib.Core.Logic.{inl, inr}
use native.Mathlib.Decide.{dec_lt}
use native.Mathlib.Numerals.{add-one}
use native.Mathlib.Omega.{arith}
use lib.IntN.{ℤ, pos}
use lib.ListN.{length}
use Rattle.whole.specs.Cells.{cell}
use Rattle.loops.proofs.Before.{before_carries}
use Rattle.rows.specs.Rows.{Fine}
use Rattle.layout.specs.Bands.{Wc, Hc}
use Rattle.layout.specs.Precincts.{slices}
use Rattle.layout.specs.Cells.{area, start}
use Rattle.layout.specs.Slices.{slice_of_row}
use Rattle.packets.specs.declared.Setting.{Setting}
use Rattle.packets.specs.Ready.{Settled}
use Rattle.packets.proofs.CountCells.{NotNegative}
use Rattle.slices.specs.Slice.{State, Left, slice_header_bytes, slice}
use Rattle.slices.proofs.Laws.{precincts_keeps, precincts_other, length_kept}
use Rattle.slices.proofs.Coefficients.{Passes, far_passes, slice_passes, ReadsOne}
use Rattle.slices.proofs.Owned.{Owned, owned_below, far_foreign, precincts_spares, slice_spares}
use Rattle.slices.proofs.Rows.{InRow, row_owned, row_once}
use Rattle.slices.proofs.CountCells.{slice_counts_cell}
use Rattle.damage.specs.Lost.{lost_count, lose}
use Rattle.damage.specs.Stream.{precincts_of, damaged_turn, stream_by, before_damaged, spoilt}
use Rattle.damage.proofs.Losses.{lose_length, lose_coefficient, lose_count, lose_other}
use Rattle.damage.proofs.Reaching.{damaged_left, read_slice, lost_slice}

module _ (s : List ℕ) (c : Setting) (settled : Settled c) (x : State) (fine : (stream_by s c true x).0 ≡ Fine) where
  -- ---- the step of each slice, read or lost

  module _ (g : ℕ) (h : g < slices c.shape) where
    abbrev here : State
    here = before_damaged s c x g

    abbrev after : State
    after = before_damaged s c x (g + 1)

    -- what the precincts leave, before any of it is lost
    abbrev tried : List ℤ
    tried = (precincts_of s c g here).1.2

    tried_length : length tried ≡ length here.2
    tried_length =
        precincts_keeps s c (λ l. length l ≡ length here.2) settled.shape g h (length_kept s c settled (length here.2) g)
        (here.0 + slice_header_bytes, here.1, here.2) refl

    lost_cell : (n : ℕ) → spoilt s c x g ≡ true → cell after.2 n ≡ cell (lose c.shape g tried) n
    lost_cell n f = ap (λ (y : State). cell y.2 n) (lost_slice s c x fine g h f)

    -- what other slices have left it keeps
    pub step_passes : Passes c g here after
    step_passes = by (spoilt s c x g) refl
      where
        by : (b : Bool) → spoilt s c x g ≡ b → Passes c g here after
        by false f = rw (ap (λ (r : Left). r.1) (read_slice s c x fine g h f)) at (slice_passes c settled s g h here)
        by true f =
            let e = lost_slice s c x fine g h f in
            far_passes c settled g here after (ap (λ (y : State). length y.2) e ∙ lose_length c.shape g tried ∙ tried_length) (ap (λ (y : State). length y.1) e)
            (λ b l. rw e (omega arith))
            (λ n far.
            lost_cell n f
            ∙ lose_other c.shape settled.shape g tried n (λ r. far_foreign c settled (row_owned c.shape settled.shape r) far)
            ∙ precincts_other s c settled n g h far (here.0 + slice_header_bytes, here.1, here.2))

    -- and the cells of their rows
    pub step_spares : {t n : ℕ} → InRow c.shape t n → (g ≡ t → ⊥) → cell after.2 n ≡ cell here.2 n
    step_spares {t} {n} r other = by (spoilt s c x g) refl
      where
        o : Owned c.shape t n
        o = row_owned c.shape settled.shape r

        by : (b : Bool) → spoilt s c x g ≡ b → cell after.2 n ≡ cell here.2 n
        by false f = sym (ap (λ (z : Left). cell z.1.2 n) (read_slice s c x fine g h f)) ∙ slice_spares s c settled t g h other n o here
        by true f =
            lost_cell n f
            ∙ lose_other c.shape settled.shape g tried n (λ q. other (row_once c.shape q r))
            ∙ precincts_spares s c settled t g h other n o (here.0 + slice_header_bytes, here.1, here.2)

  -- ---- from slice to slice

  pub states_length : (g : ℕ) → g ≤ slices c.shape → length (before_damaged s c x g).2 ≡ length x.2
  states_length g b = before_carries (damaged_turn s c) x (λ k y. length y.2 ≡ length x.2) g refl (λ k l e. (step_passes k (omega arith)).cells ∙ e)

  -- the cells of slice t's rows: nothing changes them before it, and nothing behind it
  module _ {t n : ℕ} (r : InRow c.shape t n) where
    pub spared_before : (g : ℕ) → g ≤ t → cell (before_damaged s c x g).2 n ≡ cell x.2 n
    spared_before g b =
        let below = owned_below c settled (row_owned c.shape settled.shape r) in
        before_carries (damaged_turn s c) x (λ k y. cell y.2 n ≡ cell x.2 n) g refl
        (λ k l e. step_spares k (omega (arith, below)) r (λ f. omega (arith, f)) ∙ e)

    pub spared_behind : (g : ℕ) → t < g → g ≤ slices c.shape → cell (before_damaged s c x g).2 n ≡ cell (before_damaged s c x (t + 1)).2 n
    spared_behind zero a b = absurd (omega arith)
    spared_behind (suc g) a b = by (dec_lt t g) (λ l. spared_behind g l (omega arith))
      where
        by : Dec (t < g) → (t < g → cell (before_damaged s c x g).2 n ≡ cell (before_damaged s c x (t + 1)).2 n)
            → cell (before_damaged s c x (suc g)).2 n ≡ cell (before_damaged s c x (t + 1)).2 n
        by (yes l) before = rw (← add-one g) (step_spares g (omega arith) r (λ f. omega (arith, f)) ∙ before l)
        by (no l) before =
            let e : suc g ≡ t + 1 = omega arith in
            λ i. cell (before_damaged s c x (e i)).2 n

    pub spared_after : cell (stream_by s c true x).1.2 n ≡ cell (before_damaged s c x (t + 1)).2 n
    spared_after =
        ap (λ (z : Left). cell z.1.2 n) (damaged_left s c x fine)
        ∙ spared_behind (slices c.shape) (owned_below c settled (row_owned c.shape settled.shape r)) (omega arith)

  -- ---- column X and row Y of component i's coefficients and counts, of slice t

  module _ (t : ℕ) {i X Y : ℕ} (h : i < c.shape.nc) (column : X < Wc c.shape i) (row : Y < Hc c.shape i) (own : slice_of_row c.shape i Y ≡ t) where
    abbrev coefficient_place : ℕ
    coefficient_place = start c.shape i + (Y * Wc c.shape i + X)

    abbrev count_place : ℕ
    count_place = start c.shape i + area c.shape i + (Y * Wc c.shape i + X)

    coefficient_row : InRow c.shape t coefficient_place
    coefficient_row = record { i = i; X = X; Y = Y; component = h; column = column; row = row; slice = own; stands = inl refl }

    count_row : InRow c.shape t count_place
    count_row = record { i = i; X = X; Y = Y; component = h; column = column; row = row; slice = own; stands = inr refl }

    here_below : t < slices c.shape
    here_below = owned_below c settled (row_owned c.shape settled.shape coefficient_row)

    module _ (room : start c.shape c.shape.nc ≤ length x.2) (spoils : spoilt s c x t ≡ true) where
      enough : start c.shape c.shape.nc ≤ length (tried t here_below)
      enough = omega (arith, room, tried_length t here_below, states_length t (omega (arith, here_below)))

      pub lost_zero : cell (stream_by s c true x).1.2 coefficient_place ≡ pos 0
      lost_zero =
          spared_after coefficient_row
          ∙ lost_cell t here_below coefficient_place spoils
          ∙ lose_coefficient c.shape settled.shape t (tried t here_below) enough h column row own

      pub lost_marked : cell (stream_by s c true x).1.2 count_place ≡ lost_count
      lost_marked =
          spared_after count_row ∙ lost_cell t here_below count_place spoils ∙ lose_count c.shape settled.shape t (tried t here_below) enough h column row own

    pub kept_unmarked : spoilt s c x t ≡ false → NotNegative (cell x.2 count_place) → NotNegative (cell (stream_by s c true x).1.2 count_place)
    kept_unmarked sound start_whole =
        let e : cell (stream_by s c true x).1.2 count_place ≡ cell (slice s c t (before_damaged s c x t)).1.2 count_place =
        spared_after count_row ∙ sym (ap (λ (z : Left). cell z.1.2 count_place) (read_slice s c x fine t here_below sound)) in
        rw e
        (slice_counts_cell c settled h column row s t here_below (before_damaged s c x t) (rw (spared_before count_row t (omega arith)) start_whole))

  -- ---- a slice that is not spoilt is read, and the others keep what it leaves

  pub kept_reads : (t : ℕ) → t < slices c.shape → spoilt s c x t ≡ false → ReadsOne s c (before_damaged s c x) t
  kept_reads t l sound = record { own = read_slice s c x fine t l sound; others = λ g h other. step_passes g h }
