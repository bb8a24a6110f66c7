-- The cells of a slice are whole rows of each component: of its coefficients, and behind them of its counts. Assumes nothing.
use Prim.Native.Nat.{ℕ, ◌+◌, ◌*◌, ◌/◌, ◌≤◌, ◌<◌}
use mathlib.Core.Path.{◌≡◌, sym, ap, ◌∙◌}
use mathlib.Core.Logic.{◌⊎◌, inl, inr}
use native.Mathlib.Decide.{dec_lt}
use native.Mathlib.Omega.{arith}
use Rattle.wavelet.specs.Bands.{τx, τy}
use Rattle.wavelet.specs.Places.{place}
use Rattle.layout.specs.declared.Shape.{Shape}
use Rattle.layout.specs.Built.{Built}
use Rattle.layout.specs.Bands.{Wc, Hc, kind, dx, depth}
use Rattle.layout.specs.Cells.{area, start, inner, cell}
use Rattle.layout.specs.Slices.{slice_of_row}
use Rattle.layout.proofs.Cells.{row_of_cell, cell_below, inside, coefficient, every_cell, starts_up}
use Rattle.layout.proofs.Slices.{coefficient_slice}
use Rattle.slices.proofs.Owned.{Owned}

-- cell n stands in column X and row Y of component i's coefficients, or of its counts, and the row is slice t's
pub record InRow (s : Shape) (t n : ℕ) : Type 0 where
  pub i : ℕ
  pub X : ℕ
  pub Y : ℕ
  pub component : i < s.nc
  pub column : X < Wc s i
  pub row : Y < Hc s i
  pub slice : slice_of_row s i Y ≡ t
  pub stands : (n ≡ start s i + (Y * Wc s i + X)) ⊎ (n ≡ start s i + area s i + (Y * Wc s i + X))

module _ (s : Shape) (built : Built s) {t n : ℕ} where
  pub owned_row : Owned s t n → InRow s t n
  unfolding inner
  owned_row o =
      let p = inside (coefficient s built o.i o.component o.there) in
      record {
        i = o.i;
        X = place (τx (kind s o.β)) (dx s o.β) o.x;
        Y = place (τy (kind s o.β)) (depth s o.β o.i) o.y;
        component = o.component;
        column = p.0;
        row = p.1;
        slice = coefficient_slice s built o.i o.component o.there ∙ o.slice;
        stands = by o.stands;
      }
    where
      by : (n ≡ cell s o.β o.i o.x o.y) ⊎ (n ≡ cell s o.β o.i o.x o.y + area s o.i)
          → (n ≡ start s o.i + inner s o.β o.i o.x o.y) ⊎ (n ≡ start s o.i + area s o.i + inner s o.β o.i o.x o.y)
      by (inl e) = inl e
      by (inr e) = inr (omega (arith, e))

  pub row_owned : InRow s t n → Owned s t n
  unfolding inner area
  row_owned r =
      let W = Wc s r.i in
      let q = every_cell s built r.i r.component (r.Y * W + r.X) (cell_below W r.Y r.X r.column (Hc s r.i) r.row) in
      let Y = place (τy (kind s q.β)) (depth s q.β r.i) q.y in
      let X = place (τx (kind s q.β)) (dx s q.β) q.x in
      let p = inside (coefficient s built r.i r.component q.exists) in
      let same : Y ≡ r.Y = sym (row_of_cell W Y X p.0) ∙ ap (λ (m : ℕ). m / W) q.cell ∙ row_of_cell W r.Y r.X r.column in
      record {
        i = r.i;
        β = q.β;
        x = q.x;
        y = q.y;
        component = r.component;
        there = q.exists;
        slice = sym (coefficient_slice s built r.i r.component q.exists) ∙ ap (slice_of_row s r.i) same ∙ r.slice;
        stands = by (inner s q.β r.i q.x q.y) q.cell r.stands;
      }
    where
      by : (m : ℕ) → m ≡ r.Y * Wc s r.i + r.X
          → (n ≡ start s r.i + (r.Y * Wc s r.i + r.X)) ⊎ (n ≡ start s r.i + area s r.i + (r.Y * Wc s r.i + r.X))
          → (n ≡ start s r.i + m) ⊎ (n ≡ start s r.i + m + area s r.i)
      by m q (inl e) = inl (omega (arith, e, q))
      by m q (inr e) = inr (omega (arith, e, q))

-- ---- a cell is in a row of one slice alone

-- its component, and its place there: the coefficients' rows, and then the counts'
module _ (s : Shape) {t n : ℕ} (r : InRow s t n) where
  abbrev place_in : ℕ
  place_in = r.Y * Wc s r.i + r.X

  place_below : place_in < area s r.i
  unfolding area
  place_below = cell_below (Wc s r.i) r.Y r.X r.column (Hc s r.i) r.row

  stretch : (start s r.i ≤ n) × (n < start s r.i + 2 * area s r.i)
  stretch = by r.stands
    where
      by : (n ≡ start s r.i + place_in) ⊎ (n ≡ start s r.i + area s r.i + place_in) → (start s r.i ≤ n) × (n < start s r.i + 2 * area s r.i)
      by (inl e) = (omega (arith, e), omega (arith, e, place_below))
      by (inr e) = (omega (arith, e), omega (arith, e, place_below))

module _ (s : Shape) {t u n : ℕ} (r : InRow s t n) (q : InRow s u n) where
  same_component : r.i ≡ q.i
  same_component = by (dec_lt r.i q.i) (dec_lt q.i r.i)
    where
      by : Dec (r.i < q.i) → Dec (q.i < r.i) → r.i ≡ q.i
      by (yes l) after = absurd (omega (arith, starts_up s r.i q.i l, stretch s r, stretch s q))
      by (no l) (yes m) = absurd (omega (arith, starts_up s q.i r.i m, stretch s r, stretch s q))
      by (no l) (no m) = omega arith

  same_place : place_in s r ≡ place_in s q
  same_place = by r.stands q.stands
    where
      a : start s r.i ≡ start s q.i
      a = ap (start s) same_component

      b : area s r.i ≡ area s q.i
      b = ap (area s) same_component

      by : (n ≡ start s r.i + place_in s r) ⊎ (n ≡ start s r.i + area s r.i + place_in s r)
          → (n ≡ start s q.i + place_in s q) ⊎ (n ≡ start s q.i + area s q.i + place_in s q) → place_in s r ≡ place_in s q
      by (inl e) (inl f) = omega (arith, e, f, a)
      by (inl e) (inr f) = absurd (omega (arith, e, f, a, b, place_below s r))
      by (inr e) (inl f) = absurd (omega (arith, e, f, a, b, place_below s q))
      by (inr e) (inr f) = omega (arith, e, f, a, b)

  pub row_once : t ≡ u
  row_once =
      let down : r.Y ≡ q.Y =
      sym (row_of_cell (Wc s r.i) r.Y r.X r.column) ∙ (λ z. same_place z / Wc s (same_component z)) ∙ row_of_cell (Wc s q.i) q.Y q.X q.column in
      sym r.slice ∙ (λ z. slice_of_row s (same_component z) (down z)) ∙ q.slice
