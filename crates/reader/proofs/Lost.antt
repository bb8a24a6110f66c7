-- The count cells of a damaged page tell which coefficients are lost, and so which samples are marked. Assumes nothing.
use mathlib.Core.Path.{◌≡◌, refl, sym, ap, ◌∙◌}
use mathlib.Core.Bool.{Bool, true, false}
use mathlib.Core.List.{List}
use Prim.Native.Nat.{ℕ, ◌+◌, ◌*◌, ◌≤◌, ◌<◌}
use native.Mathlib.Decide.{dec_lt}
use native.Mathlib.Omega.{arith}
use lib.IntN.{ℤ, pos, nat_abs}
use lib.ListN.{length-replicate}
use Rattle.whole.specs.Cells.{cell}
use Rattle.whole.proofs.Lists.{replicated}
use Rattle.rows.specs.Rows.{Fine}
use Rattle.wavelet.specs.Transform.{Kind}
use Rattle.wavelet.specs.Bands.{τy, Coefficient}
use Rattle.wavelet.specs.Places.{place}
use Rattle.layout.specs.declared.Shape.{Shape}
use Rattle.layout.specs.Built.{Built}
use Rattle.layout.specs.Bands.{Wc, Hc, N'x, N'y}
use Rattle.layout.specs.Cells.{area, start}
use Rattle.layout.specs.Precincts.{slice_with}
use Rattle.layout.specs.Slices.{slice_of_row}
use Rattle.layout.proofs.Cells.{inside, cell_below, starts_up}
use Rattle.layout.proofs.Slices.{coefficient_slice}
use Rattle.header.specs.declared.header.Header.{Header}
use Rattle.shapes.specs.Shapes.{shape_of}
use Rattle.damage.proofs.Kept.{lost_marked, kept_unmarked}
use Rattle.planes.specs.Marks.{mark_of, bit}
use Rattle.planes.specs.Values.{Every}
use Rattle.planes.proofs.Planes.{planes_same}
use Rattle.planes.proofs.Marking.{mark_same}
use Rattle.distances.specs.Rule.{type_of}
use Rattle.distances.proofs.Types.{type_is, type_exists}
use Rattle.reader.specs.Settings.{setting_of, N}
use Rattle.reader.specs.Decoding.{begun}
use Rattle.reader.specs.Modes.{decoded_by, verdict_in, spoilt_slice, lost_at, lost_sample, lost_marks}
use Rattle.reader.specs.Steps.{Opened, is_lost, lost_in, marks_from}
use Rattle.reader.proofs.Openings.{settled, colours}

-- the row in which a coefficient stands is of the slice that B.5 and B.11 give it
pub row_slice : (s : Shape) (built : Built s) (i : ℕ) (h : i < s.nc) {k : Kind} {dx dy x y : ℕ} → Coefficient (Wc s i) (Hc s i) (N'x s i) (N'y s i) k dx dy x y
    → slice_of_row s i (place (τy k) dy y) ≡ slice_with s (type_of s k dx) i y
row_slice s built i h {k} {dx} {dy} {x} {y} d =
    let b = type_is s built i h k dx dy d.has in
    (λ j. slice_of_row s i (place (τy (sym b.letters j)) (sym b.down j) y)) ∙ coefficient_slice s built i h (type_exists s built i h k dx dy d)

-- a count cell is no coefficient's
pub count_outside : (s : Shape) {i X Y : ℕ} → i < s.nc → X < Wc s i → Y < Hc s i → (j : ℕ) → j < s.nc
    → start s j ≤ start s i + area s i + (Y * Wc s i + X) → start s j + area s j ≤ start s i + area s i + (Y * Wc s i + X)
unfolding area
count_outside s {i} {X} {Y} h column row j l up = by (dec_lt j i) (dec_lt i j)
  where
    inner : Y * Wc s i + X < Wc s i * Hc s i
    inner = cell_below (Wc s i) Y X column (Hc s i) row

    by : Dec (j < i) → Dec (i < j) → start s j + area s j ≤ start s i + area s i + (Y * Wc s i + X)
    by (yes less) _ = omega (arith, starts_up s j i less)
    by (no _) (yes more) = absurd (omega (arith, starts_up s i j more, inner, up))
    by (no a) (no b) =
        let e : j ≡ i = omega arith in
        rw e (omega arith)

-- ---- a page that is read

module _ {s : List ℕ} {h : Header} (o : Opened s h) (fine : verdict_in s h true ≡ Fine) where
  told : {i X Y : ℕ} → i < (shape_of h).nc → X < Wc (shape_of h) i → Y < Hc (shape_of h) i
      → is_lost (cell (decoded_by s h true).1.2 (start (shape_of h) i + area (shape_of h) i + (Y * Wc (shape_of h) i + X))) ≡ spoilt_slice s h (slice_of_row (shape_of h) i Y)
  unfolding decoded_by
  told {i} {X} {Y} component column row = by (spoilt_slice s h (slice_of_row (shape_of h) i Y)) refl
    where
      t : ℕ
      t = slice_of_row (shape_of h) i Y

      n : ℕ
      n = start (shape_of h) i + area (shape_of h) i + (Y * Wc (shape_of h) i + X)

      by : (b : Bool) → spoilt_slice s h t ≡ b → is_lost (cell (decoded_by s h true).1.2 n) ≡ spoilt_slice s h t
      by true e =
          ap is_lost
          (lost_marked s (setting_of h) (settled o) (begun h) fine t component column row refl (omega (arith, length-replicate (2 * N h) (pos 0))) e)
          ∙ sym e
      by false e =
          ap is_lost (kept_unmarked s (setting_of h) (settled o) (begun h) fine t component column row refl e whole) ∙ sym e
        where
          whole : cell (begun h).2 n ≡ pos (nat_abs (cell (begun h).2 n))
          whole = rw (replicated (2 * N h) n (pos 0)) refl

  -- where the cells behind `show` have the same counts
  module _ (w : List ℤ)
      (counts : (n : ℕ) → ((i : ℕ) → i < (shape_of h).nc → start (shape_of h) i ≤ n → start (shape_of h) i + area (shape_of h) i ≤ n) → cell w n ≡ cell (decoded_by s h true).1.2 n) where
    lost_told : Every (shape_of h) (λ i k dx dy x y. lost_in (shape_of h) w i k dx dy x y ≡ lost_at s h i k dx dy x y)
    lost_told i c k dx dy x y d =
        let p = inside d in
        ap is_lost (counts _ (count_outside (shape_of h) c p.0 p.1)) ∙ told c p.0 p.1 ∙ ap (spoilt_slice s h) (row_slice (shape_of h) o.shape i c d)

    pub marks_told : marks_from h w ≡ lost_marks s h
    unfolding lost_marks lost_sample
    marks_told =
        planes_same o.shape (λ i x y. bit (mark_of (shape_of h) h.picture.cpih (lost_in (shape_of h) w) i x y)) (λ i x y. bit (mark_of (shape_of h) h.picture.cpih (lost_at s h) i x y))
        (λ i x y p. ap bit (mark_same o.shape (colours o.accepted.ranges) (lost_in (shape_of h) w) (lost_at s h) lost_told i x y p))
