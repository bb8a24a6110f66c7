-- The cells of a component's grid as samples: a level over them, no two of them the same, and sizes that grow by three at most with each filter.
-- Assumes nothing.
use mathlib.Core.Path.{◌≡◌, sym, ap, ◌∙◌}
use mathlib.Core.List.{List}
use Prim.Native.Nat.{ℕ, ◌+◌, ◌*◌, ◌/◌, ◌%◌, ◌^◌, ◌≤◌, ◌<◌}
use native.Mathlib.Nat.{mul_assoc, mul_comm, mul-pos, mul-mod_left, le_trans, div-add-mod', eq_of_mul-eq-mul_right}
use native.Mathlib.Decide.{ℕ_discrete}
use native.Mathlib.Omega.{arith}
use lib.Pow.{pow_pos, shl_exact}
use lib.Arith.{digits_lt, digits_div, digits_mod}
use lib.IntN.{ℤ, nat_abs}
use Rattle.whole.specs.Cells.{cell}
use Rattle.whole.proofs.Machine.{one_shl}
use Rattle.wavelet.specs.Filter.{Steps, filter}
use Rattle.wavelet.specs.Transform.{low_size}
use Rattle.wavelet.specs.Places.{sample_at}
use Rattle.wavelet.specs.Lines.{OntoGrid, Grid, GridWithin, level_cell}
use Rattle.wavelet.specs.Grids.{Gridded, Pass, SamplesWithin, level_band}
use Rattle.wavelet.proofs.Halves.{below_size, size_above}
use Rattle.wavelet.proofs.Tame.{Tame, thrice}

-- a cell has one row and one column
pub one_place : {w : ℕ} (r c r' c' : ℕ) → c < w → c' < w → r * w + c ≡ r' * w + c' → (r ≡ r') × (c ≡ c')
one_place {w} r c r' c' h h' e =
    (sym (digits_div r h) ∙ ap (λ (n : ℕ). n / w) e ∙ digits_div r' h', sym (digits_mod r h) ∙ ap (λ (n : ℕ). n % w) e ∙ digits_mod r' h')

pub samples_le : {w h B C : ℕ} {l : List ℤ} → SamplesWithin w h B l → B ≤ C → SamplesWithin w h C l
samples_le s k = record { most = λ c r hc hr. le_trans (s.most c r hc hr) k }

-- row k of the grid begins at a multiple of the sheet's width
pub row_start : (w d k : ℕ) → k * (w * 2 ^ d) ≡ k * 2 ^ d * w
row_start w d k = ap (λ (n : ℕ). k * n) (mul_comm w (2 ^ d)) ∙ sym (mul_assoc k (2 ^ d) w)

module _ {w h d len : ℕ} (p : Pass w h d len) where
  at_cell : (k q : ℕ) → k * (w * 2 ^ d) + q * 2 ^ d ≡ k * 2 ^ d * w + q * 2 ^ d
  at_cell k q = ap (λ (n : ℕ). n + q * 2 ^ d) (row_start w d k)

  pub level_grid : Grid (2 ^ d) (low_size w d) (w * 2 ^ d) (low_size h d) len
  level_grid = record {
    two_across = p.two_across;
    two_down = p.two_down;
    s_up = pow_pos d;
    t_up = mul-pos p.sheet.wide (pow_pos d);
    inside = λ k q hk hq. rw (at_cell k q, ← p.sheet.all) (digits_lt (below_size (pow_pos d) h k hk) (below_size (pow_pos d) w q hq));
    apart = λ k q k' q' hk hq hk' hq' e.
        let o = one_place (k * 2 ^ d) (q * 2 ^ d) (k' * 2 ^ d) (q' * 2 ^ d) (below_size (pow_pos d) w q hq) (below_size (pow_pos d) w q' hq') (sym (at_cell k q) ∙ e ∙ at_cell k' q') in
        (eq_of_mul-eq-mul_right (2 ^ d) (pow_pos d) k k' o.0, eq_of_mul-eq-mul_right (2 ^ d) (pow_pos d) q q' o.1);
  }

  pub level_cells : {B : ℕ} {l : List ℤ} → SamplesWithin w h B l → GridWithin (2 ^ d) (low_size w d) (w * 2 ^ d) (low_size h d) B l
  level_cells m = record { most = λ k q hk hq. rw (at_cell k q) (m.most (q * 2 ^ d) (k * 2 ^ d) (below_size (pow_pos d) w q hq) (below_size (pow_pos d) h k hk)) }

  -- what a level leaves, as samples
  module _ (S : Steps ℤ) where
    same_band : (l : List ℤ) (x y : ℕ) → level_cell S (2 ^ d) (low_size w d) (w * 2 ^ d) (low_size h d) l (y, x) ≡ level_band S w h d l x y
    same_band l x y = λ i. filter S (low_size h d) (λ k. filter S (low_size w d) (λ q. cell l (at_cell k q i)) x) y

    pub level_made : {l l' : List ℤ} → OntoGrid (2 ^ d) (low_size w d) (w * 2 ^ d) (low_size h d) (level_cell S (2 ^ d) (low_size w d) (w * 2 ^ d) (low_size h d) l) l l'
        → Gridded w h (2 ^ d) (2 ^ d) (level_band S w h d l) l l'
    level_made {l} {l'} o = record {
      same = o.same;
      on = λ x y hx hy. ap (cell l') (sym (at_cell y x)) ∙ o.on (y, x) (size_above (pow_pos d) h y hy, size_above (pow_pos d) w x hx) ∙ same_band l x y;
      off = λ c r hc hr never. o.off (r * w + c) (λ i a e.
          let u = one_place r c (i.0 * 2 ^ d) (i.1 * 2 ^ d) hc (below_size (pow_pos d) w i.1 a.1) (e ∙ at_cell i.0 i.1) in
          never i.1 i.0 u.1 u.0);
    }

  -- sizes grow by three at most across, and by three at most down
  module _ {S : Steps ℤ} (T : Tame S) {B : ℕ} {l l' : List ℤ} (within : SamplesWithin w h B l) (made : Gridded w h (2 ^ d) (2 ^ d) (level_band S w h d l) l l') where
    row_most : (x j : ℕ) → x < low_size w d → j < low_size h d → nat_abs (filter S (low_size w d) (λ i. sample_at w l (i * 2 ^ d) (j * 2 ^ d)) x) ≤ 3 * B
    row_most x j hx hj =
        thrice T (low_size w d) p.two_across (λ i. sample_at w l (i * 2 ^ d) (j * 2 ^ d))
        (λ i hi. within.most (i * 2 ^ d) (j * 2 ^ d) (below_size (pow_pos d) w i hi) (below_size (pow_pos d) h j hj)) x hx

    band_most : (x y : ℕ) → x * 2 ^ d < w → y * 2 ^ d < h → nat_abs (level_band S w h d l x y) ≤ 9 * B
    band_most x y hx hy =
        omega (
          arith,
          thrice T (low_size h d) p.two_down (λ j. filter S (low_size w d) (λ i. sample_at w l (i * 2 ^ d) (j * 2 ^ d)) x)
              (λ j hj. row_most x j (size_above (pow_pos d) w x hx) hj) y (size_above (pow_pos d) h y hy),
        )

    pub level_size : SamplesWithin w h (9 * B) l'
    level_size = record { most = λ c r hc hr. pick c r hc hr (ℕ_discrete (c % 2 ^ d) 0) (ℕ_discrete (r % 2 ^ d) 0) }
      where
        stays : (c r : ℕ) → c < w → r < h → ((x y : ℕ) → c ≡ x * 2 ^ d → r ≡ y * 2 ^ d → ⊥) → nat_abs (sample_at w l' c r) ≤ 9 * B
        stays c r hc hr never = omega (arith, ap nat_abs (made.off c r hc hr never), within.most c r hc hr)

        moves : (c r x y : ℕ) → c < w → r < h → c ≡ x * 2 ^ d → r ≡ y * 2 ^ d → nat_abs (sample_at w l' c r) ≤ 9 * B
        moves c r x y hc hr ec er = rw (ec, er) (rw (made.on x y (omega arith) (omega arith)) (band_most x y (omega arith) (omega arith)))

        multiple : (n m : ℕ) → n % m ≡ 0 → n ≡ n / m * m
        multiple n m e = omega (arith, div-add-mod' n m)

        pick : (c r : ℕ) → c < w → r < h → Dec (c % 2 ^ d ≡ 0) → Dec (r % 2 ^ d ≡ 0) → nat_abs (sample_at w l' c r) ≤ 9 * B
        pick c r hc hr (yes ec) (yes er) = moves c r (c / 2 ^ d) (r / 2 ^ d) hc hr (multiple c (2 ^ d) ec) (multiple r (2 ^ d) er)
        pick c r hc hr (no n) er = stays c r hc hr (λ x y ex ey. n (rw ex (mul-mod_left x (2 ^ d))))
        pick c r hc hr (yes ec) (no n) = stays c r hc hr (λ x y ex ey. n (rw ey (mul-mod_left y (2 ^ d))))

-- ---- the shifts of the code do not wrap

pub row_shift : {w : ℕ} (d : ℕ) → w ≤ 16384 → d ≤ 5 → (w * 2 ^ d) % 2 ^ 64 ≡ w * 2 ^ d
row_shift {w} d narrow depth = shl_exact {a = w} 15 d 64 (omega arith) (omega arith)

pub column_shift : (d : ℕ) → d ≤ 5 → (1 * 2 ^ d) % 2 ^ 64 ≡ 2 ^ d
column_shift d depth = one_shl d (omega arith)
