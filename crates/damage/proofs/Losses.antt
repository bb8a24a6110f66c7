-- What `lose` leaves: of a slice's rows the coefficients are 0 and the counts −1, and every other cell is what it was. Assumes nothing.
use Prim.Native.Nat.{ℕ, zero, suc, ◌+◌, ◌*◌, ◌-◌, ◌/◌, ◌%◌, ◌≤◌, ◌<◌}
use mathlib.Core.Path.{◌≡◌, refl, sym, ap, ◌∙◌}
use mathlib.Core.Bool.{Bool, true, false, cond, ◌&&◌, and_assoc}
use mathlib.Core.List.{List}
use mathlib.Core.Logic.{◌⊎◌, inl, inr}
use native.Mathlib.Nat.{mod-lt, div-lt_iff_lt-mul, div-add-mod', mul_comm}
use native.Mathlib.Numerals.{add-one}
use native.Mathlib.Decide.{dec_lt}
use native.Mathlib.Omega.{arith}
use borrow.Author.Tests.{leb-true, ltb-true, eqb-true, le-leb, lt-ltb, eq-eqb}
use lib.Dec.{leb, ltb, eqb}
use lib.IntN.{ℤ, pos}
use lib.ListN.{length, get_or-eq_default}
use Rattle.whole.specs.Cells.{cell, map_at}
use Rattle.layout.specs.declared.Shape.{Shape}
use Rattle.layout.specs.Built.{Built}
use Rattle.layout.specs.Bands.{Wc, Hc}
use Rattle.layout.specs.Cells.{area, start}
use Rattle.layout.specs.Sizes.{component_of}
use Rattle.layout.specs.Slices.{slice_of_row}
use Rattle.layout.proofs.Shapes.{component_small}
use Rattle.layout.proofs.Cells.{row_of_cell, cell_below, starts_up}
use Rattle.layout.proofs.Present.{tests_true}
use Rattle.slices.proofs.Rows.{InRow}
use Rattle.damage.specs.Lost.{lost_count, in_slice, lost_cell, lose_before, lose}
use Rattle.whole.proofs.Passes.{map_at_length, map_at_at}

-- ---- the cells of a slice's rows

-- cell n stands in column X and row Y of component i's coefficients, or counts, which stand row by row from `first` on, and the row is slice t's
pub record Within (s : Shape) (t i first n : ℕ) : Type 0 where
  pub X : ℕ
  pub Y : ℕ
  pub column : X < Wc s i
  pub row : Y < Hc s i
  pub slice : slice_of_row s i Y ≡ t
  pub stands : n ≡ first + (Y * Wc s i + X)

module _ (s : Shape) (t i first n : ℕ) where
  pub within_true : Within s t i first n → in_slice s t i first n ≡ true
  unfolding area
  within_true w =
      let W = Wc s i in
      let m : n - first ≡ w.Y * W + w.X = omega (arith, w.stands) in
      let below = cell_below W w.Y w.X w.column (Hc s i) w.row in
      let own : slice_of_row s i ((n - first) / W) ≡ t = ap (λ (k : ℕ). slice_of_row s i (k / W)) m ∙ ap (slice_of_row s i) (row_of_cell W w.Y w.X w.column) ∙ w.slice in
      λ j. le-leb first n (omega (arith, w.stands)) j && (lt-ltb n (first + area s i) (omega (arith, w.stands, below)) j && eq-eqb (slice_of_row s i ((n - first) / W)) t own j)

  pub true_within : Built s → i < s.nc → in_slice s t i first n ≡ true → Within s t i first n
  unfolding area
  true_within built h e =
      let W = Wc s i in
      let wide = (component_small s i (component_of s i) built h refl).wide in
      let from = leb first n in
      let to = ltb n (first + area s i) in
      let own = eqb (slice_of_row s i ((n - first) / W)) t in
      let q = tests_true from to own (and_assoc from to own ∙ e) in
      let a = leb-true first n q.0 in
      let b = ltb-true n (first + area s i) q.1 in
      record {
        X = (n - first) % W;
        Y = (n - first) / W;
        column = mod-lt (n - first) wide;
        row = (div-lt_iff_lt-mul wide).1 (omega (arith, a, b, mul_comm W (Hc s i)));
        slice = eqb-true (slice_of_row s i ((n - first) / W)) t q.2;
        stands = omega (arith, a, div-add-mod' (n - first) W);
      }

  pub within_false : Built s → i < s.nc → (Within s t i first n → ⊥) → in_slice s t i first n ≡ false
  within_false built h out = by (in_slice s t i first n) (true_within built h)
    where
      by : (b : Bool) → (b ≡ true → Within s t i first n) → b ≡ false
      by true w = absurd (out (w refl))
      by false w = refl

  -- the stretch in which it stands
  pub within_stretch : Within s t i first n → (first ≤ n) × (n < first + area s i)
  unfolding area
  within_stretch w = (omega (arith, w.stands), omega (arith, w.stands, cell_below (Wc s i) w.Y w.X w.column (Hc s i) w.row))

-- ---- what a component's pass leaves in a cell

module _ (s : Shape) (built : Built s) (t : ℕ) where
  module _ (i : ℕ) (h : i < s.nc) (n : ℕ) (v : ℤ) where
    pub lost_coefficient : Within s t i (start s i) n → lost_cell s t i n v ≡ pos 0
    lost_coefficient w = λ j. cond (within_true s t i (start s i) n w j) (pos 0) (cond (in_slice s t i (start s i + area s i) n) lost_count v)

    pub lost_count_lem : Within s t i (start s i + area s i) n → lost_cell s t i n v ≡ lost_count
    lost_count_lem w =
        let past = within_false s t i (start s i) n built h (λ z. omega (arith, within_stretch s t i (start s i) n z, within_stretch s t i (start s i + area s i) n w)) in
        λ j. cond (past j) (pos 0) (cond (within_true s t i (start s i + area s i) n w j) lost_count v)

    pub lost_other : (Within s t i (start s i) n → ⊥) → (Within s t i (start s i + area s i) n → ⊥) → lost_cell s t i n v ≡ v
    lost_other a b = λ j. cond (within_false s t i (start s i) n built h a j) (pos 0) (cond (within_false s t i (start s i + area s i) n built h b j) lost_count v)

-- ---- what all of them leave

module _ (s : Shape) (t : ℕ) where
  pub before_length : (i : ℕ) (l : List ℤ) → length (lose_before s t i l) ≡ length l
  unfolding lose_before
  before_length zero l = refl
  before_length (suc i) l = map_at_length (lost_cell s t i) (lose_before s t i l) ∙ before_length i l

  -- one component more
  pub before_more : (i : ℕ) (l₀ : List ℤ) {l l' : List ℤ} → l ≡ lose_before s t i l₀ → l' ≡ map_at (lost_cell s t i) l → l' ≡ lose_before s t (i + 1) l₀
  unfolding lose_before
  before_more i l₀ e f = rw add-one (f ∙ ap (map_at (lost_cell s t i)) e)

  pub lose_length : (l : List ℤ) → length (lose s t l) ≡ length l
  lose_length l = before_length s.nc l

  module _ (l : List ℤ) (n : ℕ) (h : n < length l) where
    one_more : (i : ℕ) → cell (lose_before s t (suc i) l) n ≡ lost_cell s t i n (cell (lose_before s t i l) n)
    unfolding lose_before
    one_more i = map_at_at (lost_cell s t i) (lose_before s t i l) n (pos 0) (omega (arith, before_length i l))

    -- a cell that no component loses
    spared : (k : ℕ) → ((i : ℕ) → i < k → (v : ℤ) → lost_cell s t i n v ≡ v) → cell (lose_before s t k l) n ≡ cell l n
    unfolding lose_before
    spared zero out = refl
    spared (suc k) out = one_more k ∙ out k (omega arith) (cell (lose_before s t k l) n) ∙ spared k (λ i a. out i (omega arith))

    -- a cell that component i alone can lose
    lost_once : (i k : ℕ) → i < k → ((j : ℕ) → j < k → (j ≡ i → ⊥) → (v : ℤ) → lost_cell s t j n v ≡ v) → cell (lose_before s t k l) n ≡ lost_cell s t i n (cell l n)
    lost_once i zero a out = absurd (omega arith)
    lost_once i (suc k) a out = by (dec_lt i k) (λ b. lost_once i k b (λ j c. out j (omega arith)))
      where
        by : Dec (i < k) → (i < k → cell (lose_before s t k l) n ≡ lost_cell s t i n (cell l n)) → cell (lose_before s t (suc k) l) n ≡ lost_cell s t i n (cell l n)
        by (yes b) before = one_more k ∙ out k (omega arith) (λ e. omega (arith, e)) (cell (lose_before s t k l) n) ∙ before b
        by (no b) before =
            let e : k ≡ i = omega arith in
            one_more k ∙ (λ z. lost_cell s t (e z) n (spared k (λ j c. out j (omega arith) (λ f. omega (arith, f))) z))

module _ (s : Shape) (built : Built s) (t : ℕ) (l : List ℤ) where
  -- a cell of component i
  pub lose_component : start s s.nc ≤ length l → {i n : ℕ} → i < s.nc → start s i ≤ n → n < start s i + 2 * area s i → cell (lose s t l) n ≡ lost_cell s t i n (cell l n)
  lose_component room {i} {n} h a b = lost_once s t l n (omega (arith, starts_up s i s.nc h)) i s.nc h
      (λ j c d v. lost_other s built t j c n v (λ w. far j d (dec_lt j i) (within_stretch s t j (start s j) n w).0 (omega (arith, (within_stretch s t j (start s j) n w).1)))
      (λ w. far j d (dec_lt j i) (omega (arith, (within_stretch s t j (start s j + area s j) n w).0)) (omega (arith, (within_stretch s t j (start s j + area s j) n w).1))))
    where
      far : (j : ℕ) → (j ≡ i → ⊥) → Dec (j < i) → start s j ≤ n → n < start s j + 2 * area s j → ⊥
      far j d (yes c) e f = omega (arith, starts_up s j i c)
      far j d (no c) e f = omega (arith, starts_up s i j (omega arith))

  module _ (room : start s s.nc ≤ length l) {i X Y : ℕ} (h : i < s.nc) (column : X < Wc s i) (row : Y < Hc s i) (own : slice_of_row s i Y ≡ t) where
    pub lose_coefficient : cell (lose s t l) (start s i + (Y * Wc s i + X)) ≡ pos 0
    lose_coefficient =
        let n = start s i + (Y * Wc s i + X) in
        let w : Within s t i (start s i) n = record { X = X; Y = Y; column = column; row = row; slice = own; stands = refl } in
        let q = within_stretch s t i (start s i) n w in
        lose_component room h q.0 (omega (arith, q.1)) ∙ lost_coefficient s built t i h n (cell l n) w

    pub lose_count : cell (lose s t l) (start s i + area s i + (Y * Wc s i + X)) ≡ lost_count
    lose_count =
        let n = start s i + area s i + (Y * Wc s i + X) in
        let w : Within s t i (start s i + area s i) n = record { X = X; Y = Y; column = column; row = row; slice = own; stands = refl } in
        let q = within_stretch s t i (start s i + area s i) n w in
        lose_component room h (omega (arith, q.0)) (omega (arith, q.1)) ∙ lost_count_lem s built t i h n (cell l n) w

  pub lose_other : (n : ℕ) → (InRow s t n → ⊥) → cell (lose s t l) n ≡ cell l n
  lose_other n out = by (dec_lt n (length l))
    where
      in_row : (i : ℕ) → i < s.nc → (first : ℕ) → (first ≡ start s i) ⊎ (first ≡ start s i + area s i) → Within s t i first n → ⊥
      in_row i h first which w = out (record {
        i = i;
        X = w.X;
        Y = w.Y;
        component = h;
        column = w.column;
        row = w.row;
        slice = w.slice;
        stands = half which;
      })
        where
          half : (first ≡ start s i) ⊎ (first ≡ start s i + area s i)
              → (n ≡ start s i + (w.Y * Wc s i + w.X)) ⊎ (n ≡ start s i + area s i + (w.Y * Wc s i + w.X))
          half (inl e) = inl (omega (arith, e, w.stands))
          half (inr e) = inr (omega (arith, e, w.stands))

      by : Dec (n < length l) → cell (lose s t l) n ≡ cell l n
      by (yes h) = spared s t l n h s.nc (λ i a v. lost_other s built t i a n v (in_row i a (start s i) (inl refl)) (in_row i a (start s i + area s i) (inr refl)))
      by (no h) = get_or-eq_default (lose s t l) (pos 0) (omega (arith, lose_length s t l)) ∙ sym (get_or-eq_default l (pos 0) (omega arith))
