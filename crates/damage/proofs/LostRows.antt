-- The rows of a component that a slice has, and the two stretches of cells in which they stand. Assumes nothing.
use Prim.Native.Nat.{ℕ, ◌+◌, ◌*◌, ◌-◌, ◌/◌, ◌%◌, ◌^◌, ◌≤◌, ◌<◌, min}
use mathlib.Core.Path.{◌≡◌, refl, sym, subst, ◌∙◌}
use mathlib.Core.Bool.{Bool, true, false}
use mathlib.Core.List.{List}
use native.Mathlib.Nat.{mul_comm, add-mul, one-mul, suc-mul, mul-le-mul, mul-le-mul_right, div-le_self, mod-lt, div-add-mod', div-lt_iff_lt-mul, le-div_iff_mul-le}
use native.Mathlib.Decide.{dec_lt}
use native.Mathlib.Omega.{arith}
use lib.IntN.{ℤ, pos}
use lib.ListN.{length}
use lib.Seq.{ext_get_or}
use Rattle.whole.specs.Cells.{cell, map_at}
use Rattle.layout.specs.declared.Shape.{Shape}
use Rattle.layout.specs.declared.bands.Component.{Component}
use Rattle.layout.specs.Built.{Built}
use Rattle.layout.specs.Bands.{Wc, Hc}
use Rattle.layout.specs.Cells.{area, samples, start}
use Rattle.layout.specs.Precincts.{slices}
use Rattle.layout.specs.Sizes.{component_of}
use Rattle.layout.specs.Slices.{slice_cell_rows}
use Rattle.layout.proofs.Shapes.{component_small}
use Rattle.layout.proofs.Cells.{starts_up}
use Rattle.layout.proofs.Columns.{slices_most}
use Rattle.layout.proofs.Members.{true_false}
use Rattle.layout.proofs.Slices.{slice_has_row, row_in_slice}
use Rattle.std.specs.declared.ops.Range.{Range}
use Rattle.damage.specs.Lost.{lost_count, in_slice, lost_cell}
use Rattle.damage.specs.Steps.{IsRows, Stretched}
use Rattle.whole.proofs.Passes.{map_at_length, map_at_at}
use Rattle.damage.proofs.Losses.{Within, true_within, within_true, within_stretch, lost_coefficient, lost_count_lem, lost_other}

-- ---- which rows

module _ (s : Shape) (built : Built s) (t : ℕ) (k : t < slices s) (p d : ℕ) (few : p ≤ 32) where
  -- no sum or product of `rows_of` is large
  pub tall_small : s.hsl * (p / d) ≤ 2 ^ 21
  tall_small = omega (arith, mul-le-mul {n₁ = s.hsl} {m₁ = p / d} {n₂ = 2 ^ 16} {m₂ = 32} (omega (arith, built.short)) (omega (arith, div-le_self p d)))

  pub top_small : t * (s.hsl * (p / d)) ≤ 2 ^ 35
  top_small = omega (arith, mul-le-mul {n₁ = t} {m₁ = s.hsl * (p / d)} {n₂ = 2 ^ 14} {m₂ = 2 ^ 21} (omega (arith, k, slices_most s built)) tall_small)

module _ (s : Shape) (built : Built s) (i t : ℕ) (h : i < s.nc) where
  pub rows_are : {c : Component} {p a b : ℕ} → c ≡ component_of s i → p ≡ 2 ^ s.nly → a ≡ min (t * (s.hsl * (p / c.sy))) c.h
      → b ≡ min (t * (s.hsl * (p / c.sy)) + s.hsl * (p / c.sy)) c.h → IsRows s i t (record { start = a; end = b })
  rows_are {c} {p} {a} {b} part power from to =
      let tall = slice_cell_rows s i in
      let n : s.hsl * (p / c.sy) ≡ tall = λ z. s.hsl * (power z / (part z).sy) in
      let top : t * (s.hsl * (p / c.sy)) ≡ t * tall = λ z. t * n z in
      let high : c.h ≡ Hc s i = λ z. (part z).h in
      let more : (t + 1) * tall ≡ t * tall + tall = add-mul t 1 tall ∙ (λ z. t * tall + one-mul tall z) in
      record {
        ordered = omega (arith, from, to);
        inside = omega (arith, to, high);
        has = λ Y y. (
          (λ e. let q = slice_has_row s built i h t Y e in (omega (arith, from, top, q.0), omega (arith, to, top, n, high, more, q.1))),
          (λ r. row_in_slice s built i h t Y (omega (arith, from, top, high, r.0)) (omega (arith, to, top, n, more, r.1))),
        );
      }

-- ---- where their cells stand

module _ (s : Shape) (built : Built s) (i t : ℕ) (h : i < s.nc) {r : Range ℕ} (rows : IsRows s i t r) where
  abbrev W : ℕ
  W = Wc s i

  -- their stretches lie among the cells, by the numbers that are at hand, and no sum or product of `lose_rows` is large
  pub rows_fit : {w n a size : ℕ} → w ≡ Wc s i → (n ≡ samples s i) × (n ≤ 2 ^ 30) → (a ≡ area s i) × (a ≤ 2 ^ 28) → start s s.nc ≤ size
      → (r.start * w ≤ r.end * w) × (2 * n + a + r.end * w ≤ size) × (2 * n + a + r.end * w < 2 ^ 33)
  unfolding area
  rows_fit {w} e n a room =
      let all : Hc s i * w ≡ Hc s i * W = λ z. Hc s i * e z in
      let inside : r.end * w ≤ area s i = omega (arith, mul-le-mul_right w rows.inside, mul_comm W (Hc s i)) in
      let u = starts_up s i s.nc h in
      (mul-le-mul_right w rows.ordered, omega (arith, n, a), omega (arith, n, a))

  -- a cell of one of them, and a cell of the stretch
  row_stretch : (first n : ℕ) → Within s t i first n → (first + r.start * W ≤ n) × (n < first + r.end * W)
  row_stretch first n w =
      let q = (rows.has w.Y w.row).0 w.slice in
      (omega (arith, w.stands, mul-le-mul_right W q.0), omega (arith, w.stands, w.column, mul-le-mul_right W q.1, suc-mul w.Y W))

  stretch_row : (first n : ℕ) → first + r.start * W ≤ n → n < first + r.end * W → Within s t i first n
  stretch_row first n a b =
      let wide = (component_small s i (component_of s i) built h refl).wide in
      let from : r.start ≤ (n - first) / W = (le-div_iff_mul-le wide).1 (omega arith) in
      let to : (n - first) / W < r.end = (div-lt_iff_lt-mul wide).1 (omega arith) in
      let row : (n - first) / W < Hc s i = omega (arith, rows.inside) in
      record {
        X = (n - first) % W;
        Y = (n - first) / W;
        column = mod-lt (n - first) wide;
        row = row;
        slice = (rows.has ((n - first) / W) row).1 (from, to);
        stands = omega (arith, a, div-add-mod' (n - first) W);
      }

  outside : (first n : ℕ) → in_slice s t i first n ≡ false → first + r.start * W ≤ n → first + r.end * W ≤ n
  outside first n e a = by (dec_lt n (first + r.end * W))
    where
      by : Dec (n < first + r.end * W) → first + r.end * W ≤ n
      by (yes b) = true_false (sym e ∙ within_true s t i first n (stretch_row first n a b))
      by (no b) = omega arith

  -- the two stretches filled
  module _ {l l₁ l₂ : List ℤ} (zeros : Stretched (start s i + r.start * W) (start s i + r.end * W) (pos 0) l l₁)
      (marks : Stretched (start s i + area s i + r.start * W) (start s i + area s i + r.end * W) lost_count l₁ l₂) where
    filled : (n : ℕ) (a b : Bool) → in_slice s t i (start s i) n ≡ a → in_slice s t i (start s i + area s i) n ≡ b → cell l₂ n ≡ lost_cell s t i n (cell l n)
    filled n true b e f =
        let w = true_within s t i (start s i) n built h e in
        let q = row_stretch (start s i) n w in
        marks.other n (λ g. omega (arith, within_stretch s t i (start s i) n w)) ∙ zeros.inside n q.0 q.1 ∙ sym (lost_coefficient s built t i h n (cell l n) w)
    filled n false true e f =
        let w = true_within s t i (start s i + area s i) n built h f in
        let q = row_stretch (start s i + area s i) n w in
        marks.inside n q.0 q.1 ∙ sym (lost_count_lem s built t i h n (cell l n) w)
    filled n false false e f =
        marks.other n (outside (start s i + area s i) n f)
        ∙ zeros.other n (outside (start s i) n e)
        ∙ sym (lost_other s built t i h n (cell l n) (λ w. true_false (sym e ∙ within_true s t i (start s i) n w)) (λ w. true_false (sym f ∙ within_true s t i (start s i + area s i) n w)))

    pub rows_lost : l₂ ≡ map_at (lost_cell s t i) l
    rows_lost =
        let same : length l₂ ≡ length l = marks.same ∙ zeros.same in
        ext_get_or (pos 0) l₂ (map_at (lost_cell s t i) l) (same ∙ sym (map_at_length (lost_cell s t i) l))
        (λ n k. filled n (in_slice s t i (start s i) n) (in_slice s t i (start s i + area s i) n) refl refl ∙ sym (map_at_at (lost_cell s t i) l n (pos 0) (omega (arith, same))))

  -- by the numbers that are at hand
  pub rows_lost_by : {w n a : ℕ} {l l₁ l₂ : List ℤ} → w ≡ Wc s i → n ≡ samples s i → a ≡ area s i
      → Stretched (2 * n + r.start * w) (2 * n + r.end * w) (pos 0) l l₁ → Stretched (2 * n + a + r.start * w) (2 * n + a + r.end * w) lost_count l₁ l₂ → l₂ ≡ map_at (lost_cell s t i) l
  rows_lost_by {l = l} {l₁} {l₂} e p q zeros marks =
      rows_lost (subst (λ (f : ℕ × ℕ). Stretched f.0 f.1 (pos 0) l l₁) (λ z. (2 * p z + r.start * e z, 2 * p z + r.end * e z)) zeros)
      (subst (λ (f : ℕ × ℕ). Stretched f.0 f.1 lost_count l₁ l₂) (λ z. (2 * p z + q z + r.start * e z, 2 * p z + q z + r.end * e z)) marks)
