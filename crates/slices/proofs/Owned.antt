-- The cells of a slice: those of the coefficients, and of their counts, that B.5 puts into its precincts. A slice reads no other, and changes no other.
-- Assumes nothing.
use Prim.Native.Nat.{ℕ, suc, ◌+◌, ◌-◌, ◌*◌, ◌/◌, ◌%◌, ◌^◌, ◌≤◌, ◌<◌}
use mathlib.Core.Path.{◌≡◌, refl, sym, ap, ◌∙◌}
use mathlib.Core.List.{List}
use mathlib.Core.Logic.{◌⊎◌, inl, inr}
use native.Mathlib.Nat.{le-div_iff_mul-le, div-mul-le_self, suc-mul, mul-le-mul_left}
use native.Mathlib.Omega.{arith}
use lib.Pow.{pow_pos}
use Rattle.whole.specs.Cells.{cell as cell_at}
use Rattle.bits.specs.Groups.{Ng}
use Rattle.layout.specs.declared.Shape.{Shape}
use Rattle.layout.specs.Built.{Built}
use Rattle.layout.specs.Bands.{sx, sy, Wc, N'y, depth, dx}
use Rattle.layout.specs.Precincts.{Cs, Member, Npy, slices, slice_top, slice_rows, most_lines, first_x, first_y}
use Rattle.layout.specs.Cells.{area, inner, cell}
use Rattle.layout.specs.Slots.{slot_type, slot_line, line as line_of, line_at}
use Rattle.layout.proofs.Cells.{Exists, line_above}
use Rattle.layout.proofs.Cover.{row_of_lem, row_below, row_slice, slice_row}
use Rattle.counts.specs.Lines.{count_cell, above_cell}
use Rattle.packets.specs.declared.Setting.{Setting}
use Rattle.packets.specs.Passes.{place_of}
use Rattle.packets.specs.Ready.{Settled}
use Rattle.packets.proofs.Addresses.{There, Addressed, part_below, there_exists, there_cell, there_row, same_counts, count_apart}
use Rattle.packets.proofs.Laws.{Apart}
use Rattle.slices.specs.Slice.{State, precincts, slice}
use Rattle.slices.proofs.Laws.{FarFrom, precincts_other, slice_other}
use Rattle.slices.proofs.PrecinctCoefficients.{address, far_coefficient}
use Rattle.slices.proofs.Same.{Closed, SameState, SameLeft, precincts_same, slice_same}

-- cell n is that of a coefficient that belongs to slice t, or lies behind it where a count can stand
pub record Owned (s : Shape) (t n : ℕ) : Type 0 where
  pub i : ℕ
  pub β : ℕ
  pub x : ℕ
  pub y : ℕ
  pub component : i < s.nc
  pub there : Exists s i β x y
  pub slice : y * sy s i * 2 ^ depth s β i / 2 ^ s.nly / s.hsl ≡ t
  pub stands : (n ≡ cell s β i x y) ⊎ (n ≡ cell s β i x y + area s i)

-- ---- a slice reads its own cells

-- code group g of a line
module _ (s : Shape) (built : Built s) {row column slot j : ℕ} (a : There s row column slot j) (g : ℕ) (u : Ng * g < (line_at s row column slot j).width) where
  abbrev β : ℕ
  β = slot_type s slot + j / s.nc

  abbrev i : ℕ
  i = j % s.nc

  abbrev y : ℕ
  y = first_y s row β i + slot_line slot / sy s i

  abbrev x : ℕ
  x = first_x s column β i + Ng * g

  count_here : count_cell (place_of (line_at s row column slot j)) g ≡ cell s β i x y + area s i
  unfolding line_at line_of
  count_here = omega (arith, there_cell s built a (Ng * g) u)

  owned_count : {t : ℕ} → row / s.hsl ≡ t → Owned s t (count_cell (place_of (line_at s row column slot j)) g)
  owned_count q = record {
    i = i;
    β = β;
    x = x;
    y = y;
    component = part_below s built a;
    there = there_exists s built a (Ng * g) u;
    slice = ap (λ (n : ℕ). n / s.hsl) (row_of_lem s built β i (part_below s built a) y ∙ there_row s built a) ∙ q;
    stands = inr count_here;
  }

  -- the line above: below the slice's top row it is the slice's too
  module _ (t : ℕ) (h : t < slices s) (r : row < Npy s) (q : row / s.hsl ≡ t) (below : slice_top s t < row) where
    abbrev ml : ℕ
    ml = most_lines s β i

    ml_some : 0 < ml
    ml_some = pow_pos (N'y s i - depth s β i)

    some_above : 0 < y
    some_above = omega (arith, mul-le-mul_left {m = 1} {n = ml} row ml_some)

    row_above : (y - 1) / ml / s.hsl ≡ t
    row_above =
        let e : row ≡ suc (row - 1) = omega arith in
        let split : row * ml ≡ (row - 1) * ml + ml = (λ z. e z * ml) ∙ suc-mul (row - 1) ml in
        let low : row - 1 ≤ (y - 1) / ml = (le-div_iff_mul-le ml_some).1 (omega (arith, split, ml_some)) in
        let high : (y - 1) / ml ≤ y / ml = (le-div_iff_mul-le ml_some).1 (omega (arith, div-mul-le_self (y - 1) ml)) in
        let last : row < slice_top s t + slice_rows s t = rw q at (row_slice s built row r).2 in
        (slice_row s built t ((y - 1) / ml) h (omega (arith, low)) (omega (arith, high, there_row s built a, last))).1

    owned_above : Owned s t (above_cell (place_of (line_at s row column slot j)) g)
    unfolding line_at line_of
    owned_above =
        let e : suc (y - 1) ≡ y = omega (arith, some_above) in
        let over : inner s β i x y ≡ inner s β i x (y - 1) + 2 ^ depth s β i * Wc s i = (λ z. inner s β i x (sym e z)) ∙ line_above s β i x (y - 1) in
        let here = there_exists s built a (Ng * g) u in
        record {
          i = i;
          β = β;
          x = x;
          y = y - 1;
          component = part_below s built a;
          there = record { type = here.type; there = here.there; column = here.column; row = omega (arith, here.row) };
          slice = ap (λ (n : ℕ). n / s.hsl) (row_of_lem s built β i (part_below s built a) (y - 1)) ∙ row_above;
          stands = inr (omega (arith, count_here, over));
        }

pub owned_closed : (c : Setting) → Settled c → (t : ℕ) → t < slices c.shape → Closed (Owned c.shape t) c t
owned_closed c settled t h = record {
  counts = λ row column slot j r q k m w there g u.
      owned_count c.shape settled.shape (record { across = k; which = m; candidate = w; present = there }) g u q;
  over = λ row column slot j r q k m w there below g u.
      owned_above c.shape settled.shape (record { across = k; which = m; candidate = w; present = there }) g u t h r q below;
}

-- so what it leaves there, its verdict and its end are told by its place and by what stood there
module _ (s : List ℕ) (c : Setting) (settled : Settled c) (t : ℕ) (h : t < slices c.shape) where
  pub precincts_local : (x y : State) → SameState (Owned c.shape t) x y → SameLeft (Owned c.shape t) (precincts s c t x) (precincts s c t y)
  precincts_local = precincts_same (Owned c.shape t) s c settled t h (owned_closed c settled t h)

  pub slice_local : (x y : State) → SameState (Owned c.shape t) x y → SameLeft (Owned c.shape t) (slice s c t x) (slice s c t y)
  slice_local = slice_same (Owned c.shape t) s c settled t h (owned_closed c settled t h)

-- ---- a cell of a slice, and the line that it belongs to

module _ (c : Setting) (settled : Settled c) {t n : ℕ} (o : Owned c.shape t n) where
  abbrev row_there : ℕ
  row_there = o.y * sy c.shape o.i * 2 ^ depth c.shape o.β o.i / 2 ^ c.shape.nly

  abbrev column_there : ℕ
  column_there = o.x * sx c.shape o.i * 2 ^ dx c.shape o.β / Cs c.shape

  abbrev number : ℕ
  number = o.x - first_x c.shape column_there o.β o.i

  member : Member c.shape row_there column_there o.β o.i o.x o.y
  member = record { down = refl; across = refl }

  abbrev A : Addressed c.shape row_there column_there o.i o.β o.x o.y number
  A = address c settled o.component o.there member

  row_there_below : row_there < Npy c.shape
  row_there_below =
      let built = settled.shape in
      omega (arith, row_below c.shape built o.β o.i o.component o.y o.there.row, row_of_lem c.shape built o.β o.i o.component o.y)

  -- the slice is one of the picture's
  pub owned_below : t < slices c.shape
  owned_below = omega (arith, o.slice, row_slice c.shape settled.shape row_there row_there_below)

  -- the cell is not far from its slice's lines
  pub far_foreign : FarFrom c t n → ⊥
  far_foreign far = by o.stands
    where
      apart : Apart (line_at c.shape row_there column_there A.slot A.j) n
      apart =
          far row_there column_there A.slot A.j row_there_below o.slice A.there.across A.there.which A.there.candidate A.there.present

      by : (n ≡ cell c.shape o.β o.i o.x o.y) ⊎ (n ≡ cell c.shape o.β o.i o.x o.y + area c.shape o.i) → ⊥
      by (inl e) = apart.coefficient number A.inside (e ∙ sym A.coefficient)
      by (inr e) = apart.count number A.inside (omega (arith, e, A.coefficient, A.behind))

  -- a line in a row of precincts of another slice is apart from it
  module _ {u : ℕ} (other : u ≡ t → ⊥) {row column slot j : ℕ} (q : row / c.shape.hsl ≡ u) (there : There c.shape row column slot j) where
    other_row : row_there ≡ row → ⊥
    other_row e = other (sym q ∙ ap (λ (r : ℕ). r / c.shape.hsl) (sym e) ∙ o.slice)

    owned_apart : Apart (line_at c.shape row column slot j) n
    owned_apart = by o.stands
      where
        by : (n ≡ cell c.shape o.β o.i o.x o.y) ⊎ (n ≡ cell c.shape o.β o.i o.x o.y + area c.shape o.i)
            → Apart (line_at c.shape row column slot j) n
        by (inl e) = rw e (far_coefficient c settled o.component o.there member there (λ r z. other_row r))
        by (inr e) = record {
          coefficient = λ x l f.
              count_apart c.shape settled.shape A.there there number x A.inside l (omega (arith, A.coefficient, A.behind, e, f));
          count = λ x l f.
              other_row (same_counts c.shape settled.shape A.there there number x A.inside l (omega (arith, A.coefficient, A.behind, e, f))).rows;
        }

-- ---- so a slice leaves the cells of the others

-- whether the other slice u is accepted or refused
module _ (s : List ℕ) (c : Setting) (settled : Settled c) (t u : ℕ) (l : u < slices c.shape) (other : u ≡ t → ⊥) (n : ℕ) (o : Owned c.shape t n) where
  beyond : FarFrom c u n
  beyond row column slot j r q k m w there = owned_apart c settled o other q (record { across = k; which = m; candidate = w; present = there })

  pub precincts_spares : (x : State) → cell_at (precincts s c u x).1.2 n ≡ cell_at x.2 n
  precincts_spares = precincts_other s c settled n u l beyond

  pub slice_spares : (x : State) → cell_at (slice s c u x).1.2 n ≡ cell_at x.2 n
  slice_spares = slice_other s c settled n u l beyond
