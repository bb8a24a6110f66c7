-- The cells of a component's coefficients: inside its stretch, no two the same, and none left over; the line above lies `up` cells before.
-- Assumes nothing.
use mathlib.Core.Path.{◌≡◌, refl, sym, subst, ap, ◌∙◌}
use mathlib.Core.Bool.{true}
use Prim.Native.Nat.{ℕ, zero, suc, ◌+◌, ◌*◌, ◌/◌, ◌%◌, ◌^◌, ◌≤◌, ◌<◌}
use native.Mathlib.Nat.{mul-add-div_right, mul-add-mod_self_right, div-eq_of_lt, mod-eq_of_lt, mod-lt, div-lt_iff_lt-mul, div-add-mod', mul-le-mul_right, suc-mul, add-mul, mul_comm}
use native.Mathlib.Decide.{dec_lt}
use native.Mathlib.Omega.{arith}
use Rattle.wavelet.specs.Transform.{Kind, LL, HL, LH, HH}
use Rattle.wavelet.specs.Bands.{τx, τy, Has, columns, rows, Coefficient}
use Rattle.wavelet.specs.Places.{place}
use Rattle.wavelet.proofs.Halves.{low_inside, high_inside}
use Rattle.layout.specs.declared.Shape.{Shape}
use Rattle.layout.specs.Bands.{Wc, Hc, N'y, Nβ, kind, dx, depth, Wb, Hb, exists}
use Rattle.layout.specs.Cells.{area, inner, start, samples}
use Rattle.layout.specs.Built.{Built}
use Rattle.layout.specs.Sizes.{component_of}
use Rattle.layout.proofs.Shapes.{component_small}
use Rattle.layout.proofs.Places.{Stands, places_differ, place_found}
use Rattle.layout.proofs.Existing.{BandOf, band_has, has_band, type_known}

-- ---- rows of W cells

module _ (W r c : ℕ) (h : c < W) where
  pub row_of_cell : (r * W + c) / W ≡ r
  row_of_cell = mul-add-div_right (omega arith) r c ∙ ap (λ (n : ℕ). r + n) (div-eq_of_lt h) ∙ omega arith

  pub column_of_cell : (r * W + c) % W ≡ c
  column_of_cell = mul-add-mod_self_right r W c ∙ mod-eq_of_lt h

  pub cell_below : (H : ℕ) → r < H → r * W + c < W * H
  cell_below H k = omega (arith, mul-le-mul_right W k, suc-mul r W, mul_comm H W)

-- a coefficient stands inside its component
pub inside : {W H Nx Ny dx dy x y : ℕ} {k : Kind} → Coefficient W H Nx Ny k dx dy x y → (place (τx k) dx x < W) × (place (τy k) dy y < H)
inside {W} {H} {Nx} {Ny} {dx} {dy} {x} {y} {k} c = (col k c.has c.column, low k c.has c.row)
  where
    col : (k : Kind) → Has Nx Ny k dx dy → x < columns W k dx → place (τx k) dx x < W
    col LL h e = low_inside W dx x e
    col HL h e = high_inside W dx x h.0 e
    col LH h e = low_inside W dx x e
    col HH h e = high_inside W dx x h.0 e

    low : (k : Kind) → Has Nx Ny k dx dy → y < rows H k dy → place (τy k) dy y < H
    low LL h e = low_inside H dy y e
    low HL h e = low_inside H dy y e
    low LH h e = high_inside H dy y (omega (arith, h)) e
    low HH h e = high_inside H dy y (omega (arith, h)) e

-- ---- a coefficient of the layout

-- column x and row y of an existing band of component i
pub record Exists (s : Shape) (i β x y : ℕ) : Type 0 where
  pub type : β < Nβ s
  pub there : exists s β i ≡ true
  pub column : x < Wb s β i
  pub row : y < Hb s β i

module _ (s : Shape) (built : Built s) (i : ℕ) (h : i < s.nc) where
  pub coefficient : {β x y : ℕ} → Exists s i β x y → Coefficient (Wc s i) (Hc s i) s.nlx (N'y s i) (kind s β) (dx s β) (depth s β i) x y
  unfolding Wb Hb
  coefficient {β} c = record { has = band_has s built i h β c.type c.there; column = c.column; row = c.row }

  -- it stands in its component's stretch
  pub cell_inside : {β x y : ℕ} → Exists s i β x y → inner s β i x y < area s i
  unfolding inner area
  cell_inside {β} {x} {y} c =
      let p = inside (coefficient c) in
      cell_below (Wc s i) (place (τy (kind s β)) (depth s β i) y) (place (τx (kind s β)) (dx s β) x) p.0 (Hc s i) p.1

  stands : {β x y : ℕ} → Exists s i β x y
      → Stands (Wc s i) (Hc s i) s.nlx (N'y s i) (kind s β) (dx s β) (depth s β i) x y (inner s β i x y % Wc s i) (inner s β i x y / Wc s i)
  unfolding inner
  stands {β} {x} {y} c =
      let p = inside (coefficient c) in
      record {
        coefficient = coefficient c;
        column = sym (column_of_cell (Wc s i) (place (τy (kind s β)) (depth s β i) y) (place (τx (kind s β)) (dx s β) x) p.0);
        row = sym (row_of_cell (Wc s i) (place (τy (kind s β)) (depth s β i) y) (place (τx (kind s β)) (dx s β) x) p.0);
      }

  -- no two coefficients share a cell
  pub cells_differ : {β β' x x' y y' : ℕ} → Exists s i β x y → Exists s i β' x' y' → inner s β i x y ≡ inner s β' i x' y' → (β ≡ β') × (x ≡ x') × (y ≡ y')
  cells_differ {β} {β'} {x} {x'} {y} {y'} c d e =
      let q : Stands (Wc s i) (Hc s i) s.nlx (N'y s i) (kind s β') (dx s β') (depth s β' i) x' y' (inner s β i x y % Wc s i) (inner s β i x y / Wc s i) =
      subst (λ (n : ℕ). Stands (Wc s i) (Hc s i) s.nlx (N'y s i) (kind s β') (dx s β') (depth s β' i) x' y' (n % Wc s i) (n / Wc s i)) (sym e) (stands d)
      in
      let same = places_differ (stands c) q in
      (type_known s built β β' c.type d.type same.kinds same.depth_across, same.columns, same.rows)

  -- a coefficient of a band that the component has, by its letters and depths, is one of the layout, and stands where the transform takes it
  module _ {k : Kind} {across down x y : ℕ} (c : Coefficient (Wc s i) (Hc s i) s.nlx (N'y s i) k across down x y) where
    abbrev own_band : BandOf s built i h k across down
    own_band = has_band s built i h k across down c.has

    pub has_exists : Exists s i own_band.β x y
    unfolding Wb Hb
    has_exists =
        record {
          type = own_band.below;
          there = own_band.there;
          column = subst (λ (p : Kind × ℕ). x < columns (Wc s i) p.0 p.1) (λ j. (sym own_band.letters j, sym own_band.across j)) c.column;
          row = subst (λ (p : Kind × ℕ). y < rows (Hc s i) p.0 p.1) (λ j. (sym own_band.letters j, sym own_band.down j)) c.row;
        }

    pub has_cell : inner s own_band.β i x y ≡ place (τy k) down y * Wc s i + place (τx k) across x
    unfolding inner
    has_cell = λ j. place (τy (own_band.letters j)) (own_band.down j) y * Wc s i + place (τx (own_band.letters j)) (own_band.across j) x

  -- every cell of the component is some coefficient's
  pub record Holds (n : ℕ) : Type 0 where
    pub β : ℕ
    pub x : ℕ
    pub y : ℕ
    pub exists : Exists s i β x y
    pub cell : inner s β i x y ≡ n

  pub every_cell : (n : ℕ) → n < area s i → Holds n
  unfolding area
  every_cell n l =
      let wide = (component_small s i (component_of s i) built h refl).wide in
      let f = place_found (Wc s i) (Hc s i) s.nlx (N'y s i) (n % Wc s i) (n / Wc s i) (omega (arith, built.no_more)) (mod-lt n wide)
      ((div-lt_iff_lt-mul wide).1 (omega (arith, mul_comm (Wc s i) (Hc s i)))) in
      record {
        β = (has_band s built i h f.kind f.dx f.dy f.stands.coefficient.has).β;
        x = f.x;
        y = f.y;
        exists = has_exists f.stands.coefficient;
        cell = has_cell f.stands.coefficient ∙ (λ j. f.stands.row j * Wc s i + f.stands.column j) ∙ div-add-mod' n (Wc s i);
      }

-- ---- the whole buffer

-- a component's stretch ends where the next begins, so the cells of different components differ too; the count cell of a coefficient lies `area` cells
-- behind it, in the same stretch
module _ (s : Shape) where
  pub starts_up : (i j : ℕ) → i < j → start s i + 2 * area s i ≤ start s j
  unfolding samples
  starts_up i zero h = absurd (omega arith)
  starts_up i (suc j) h = by (dec_lt i j) (λ l. starts_up i j l)
    where
      by : Dec (i < j) → (i < j → start s i + 2 * area s i ≤ start s j) → start s i + 2 * area s i ≤ start s (suc j)
      by (yes l) ih = omega (arith, ih l)
      by (no n) ih =
          let e : i ≡ j = omega arith in
          rw e (omega arith)

-- ---- the line above

module _ (s : Shape) (β i x y : ℕ) where
  pub line_above : inner s β i x (suc y) ≡ inner s β i x y + 2 ^ depth s β i * Wc s i
  unfolding inner
  line_above =
      let d = depth s β i in
      let e : place (τy (kind s β)) d (suc y) ≡ 2 ^ d + place (τy (kind s β)) d y = omega (arith, suc-mul y (2 ^ d)) in
      ap (λ (p : ℕ). p * Wc s i + place (τx (kind s β)) (dx s β) x) e
      ∙ omega (arith, add-mul (2 ^ depth s β i) (place (τy (kind s β)) (depth s β i) y) (Wc s i))

  -- and the n-th column from here n strides behind
  pub later_column : (n : ℕ) → inner s β i (x + n) y ≡ inner s β i x y + n * 2 ^ dx s β
  unfolding inner
  later_column n = omega (arith, add-mul x n (2 ^ dx s β))
