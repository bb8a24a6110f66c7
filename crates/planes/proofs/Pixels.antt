-- Annex F over the components in their stretches. Assumes nothing.
use mathlib.Core.Path.{◌≡◌, refl, sym, ap, ◌∙◌}
use mathlib.Core.Logic.{◌≢◌}
use mathlib.Core.List.{List}
use Prim.Native.Nat.{ℕ, zero, suc, ◌+◌, ◌*◌, ◌^◌, ◌≤◌, ◌<◌}
use native.Mathlib.Omega.{arith}
use lib.IntN.{ℤ, pos, nat_abs}
use lib.ListN.{length}
use Rattle.whole.specs.Cells.{cell}
use Rattle.whole.specs.declared.Kind.{Kind}
use Rattle.whole.specs.declared.Kind.TheVariants.{Samples, Numbers}
use Rattle.colour.specs.Kinds.{rct_of}
use Rattle.colour.specs.Pass.{pixel, Stretches, TransformedBy, HoldingNumbers as PixelNumbers}
use Rattle.colour.specs.declared.Pixel.{Pixel}
use Rattle.layout.specs.declared.Shape.{Shape}
use Rattle.layout.specs.Bands.{sx, Wc}
use Rattle.layout.specs.Cells.{area, samples, start}
use Rattle.planes.specs.Values.{Values, pixel_at, pixel_part}
use Rattle.planes.specs.Places.{values_in, Inside, Ready, Holding}
use Rattle.planes.specs.Numbers.{HoldingNumbers, coloured_of}
use Rattle.planes.proofs.Colouring.{coloured_rct, same_width, same_area, same_place}
use Rattle.planes.proofs.EitherKind.{raised_part, kept_none}
use Rattle.planes.proofs.Stretches.{offset_below, stretches_apart, ready_one, number_one, stretch_fits, stretch_small, stretch_number}

-- ---- the reversible transform

module _ {s : Shape} {l : List ℤ} (ready : Ready s (2 ^ 45) l) (three : 3 ≤ s.nc) (full : (i : ℕ) → i < s.nc → sx s i ≡ 1) where
  -- the n-th pixel
  abbrev pixels : List ℤ → ℕ → Pixel ℤ
  pixels m n = pixel m (start s 0 + n) (start s 1 + n) (start s 2 + n)

  size : (i : ℕ) → i < s.nc → area s i ≡ area s 0
  size = same_area ready.built full

  cell_at : (m : List ℤ) (i x y : ℕ) → i < s.nc → values_in s m i x y ≡ cell m (start s i + (y * Wc s 0 + x))
  cell_at m i x y h = ap (λ (w : ℕ). cell m (start s i + (y * w + x))) (same_width ready.built full i h)

  pixel_at_lem : (m : List ℤ) (x y : ℕ) → pixel_at (values_in s m) x y ≡ pixels m (y * Wc s 0 + x)
  pixel_at_lem m x y = λ j. record { c0 = cell_at m 0 x y (omega arith) j; c1 = cell_at m 1 x y (omega arith) j; c2 = cell_at m 2 x y (omega arith) j }

  fits : (i : ℕ) → i < 3 → start s i + area s 0 ≤ length l
  fits i h = omega (arith, stretch_fits (ready_one {i = i} ready (omega arith)), size i (omega arith))

  apart : (i k : ℕ) → i < 3 → k < 3 → i ≢ k → (x y : ℕ) → x < area s 0 → y < area s 0 → start s i + x ≢ start s k + y
  apart i k h g d x y hx hy e =
      let q : x < area s i = omega (arith, size i (omega arith)) in
      omega (arith, stretches_apart s d x q (omega arith), size k (omega arith))

  small : (i x : ℕ) → i < 3 → x < area s 0 → nat_abs (cell l (start s i + x)) ≤ 2 ^ 60
  small i x h b = omega (arith, stretch_small (ready_one {i = i} ready (omega arith)) x (omega (arith, size i (omega arith))))

  stretches : Stretches (start s 0) (start s 1) (start s 2) (area s 0) l
  stretches =
      record {
        inside = (fits 0 (omega arith), fits 1 (omega arith), fits 2 (omega arith));
        apart = λ x y hx hy. (
          apart 0 1 (omega arith) (omega arith) (λ e. omega arith) x y hx hy,
          apart 0 2 (omega arith) (omega arith) (λ e. omega arith) x y hx hy,
          apart 1 2 (omega arith) (omega arith) (λ e. omega arith) x y hx hy,
        );
        small = λ x h. record { c0 = small 0 x (omega arith) h; c1 = small 1 x (omega arith) h; c2 = small 2 x (omega arith) h };
      }

  -- where the cells hold numbers the pixels do
  holding : HoldingNumbers s l → PixelNumbers (start s 0) (start s 1) (start s 2) (area s 0) l
  holding numbers = record { holds = λ x h j. record { c0 = one 0 x (omega arith) h j; c1 = one 1 x (omega arith) h j; c2 = one 2 x (omega arith) h j } }
    where
      one : (i x : ℕ) → i < 3 → x < area s 0 → cell l (start s i + x) ≡ pos (nat_abs (cell l (start s i + x)))
      one i x h b = stretch_number (ready_one {i = i} ready (omega arith)) (number_one numbers (omega arith)) x (omega (arith, size i (omega arith)))

  -- a cell that is none of the three components'
  outside : (n : ℕ) → ((i : ℕ) → i < 3 → start s i ≤ n → start s i + area s i ≤ n) → (x : ℕ) → x < area s 0
      → (n ≢ start s 0 + x) × (n ≢ start s 1 + x) × (n ≢ start s 2 + x)
  outside n h x b = (one 0 (omega arith), one 1 (omega arith), one 2 (omega arith))
    where
      one : (i : ℕ) → i < 3 → n ≢ start s i + x
      one i g e = omega (arith, h i g (omega arith), size i (omega arith))

  -- l' holds what f makes of the pixels, and so w
  held_by : (f : Pixel ℤ → Pixel ℤ) (w : Values ℤ) → ((i x y : ℕ) → Inside s i x y → pixel_part (f (pixel_at (values_in s l) x y)) (values_in s l i x y) i ≡ w i x y)
      → (l' : List ℤ) → TransformedBy f (start s 0) (start s 1) (start s 2) (area s 0) l l' → Holding s w l l'
  held_by f w is l' t =
      record {
        same = t.same;
        values = λ i x y h. by i x y h ∙ is i x y h;
        other = λ n h. t.off n (outside n (λ i g. h i (omega arith)));
      }
    where
      pixel_made : {i x y : ℕ} → Inside s i x y → pixel_at (values_in s l') x y ≡ f (pixel_at (values_in s l) x y)
      pixel_made {i} {x} {y} h =
          let p = same_place ready.built full h 0 (omega arith) in
          pixel_at_lem l' x y ∙ t.on (y * Wc s 0 + x) (offset_below s 0 x y p.column p.row) ∙ ap f (sym (pixel_at_lem l x y))

      by : (i x y : ℕ) → Inside s i x y → values_in s l' i x y ≡ pixel_part (f (pixel_at (values_in s l) x y)) (values_in s l i x y) i
      by zero x y h = ap (λ (p : Pixel ℤ). p.c0) (pixel_made h)
      by (suc zero) x y h = ap (λ (p : Pixel ℤ). p.c1) (pixel_made h)
      by (suc (suc zero)) x y h = ap (λ (p : Pixel ℤ). p.c2) (pixel_made h)
      by (suc (suc (suc i))) x y h =
          let n : ℕ = y * Wc s (suc (suc (suc i))) + x in
          t.off (start s (suc (suc (suc i))) + n)
          (outside (start s (suc (suc (suc i))) + n)
          (λ k g. stretches_apart s (λ e. omega arith) n (offset_below s (suc (suc (suc i))) x y h.column h.row)))

  -- the same as the code has it: from the samples of the components before 1 and 2, and the n of component 0
  module _ {b d n : ℕ} (second : b ≡ samples s 1) (third : d ≡ samples s 2) (own : n ≡ area s 0) where
    pub rct_taken : Stretches 0 (2 * b) (2 * d) n l
    unfolding samples
    rct_taken = rw (second, third, own) stretches

    pub rct_numbers : HoldingNumbers s l → PixelNumbers 0 (2 * b) (2 * d) n l
    unfolding samples
    rct_numbers numbers = rw (second, third, own) (holding numbers)

    pub rct_held : {Cpih : ℕ} {l' : List ℤ} → Cpih ≡ 1 → (kind : Kind) → (kind ≡ Numbers → HoldingNumbers s l)
        → TransformedBy (rct_of kind) 0 (2 * b) (2 * d) n l l' → Holding s (coloured_of kind Cpih (values_in s l)) l l'
    unfolding samples
    rct_held {Cpih} {l'} one kind numbers t = held_by (rct_of kind) (coloured_of kind Cpih (values_in s l)) (is kind numbers) l' (rw (second, third, own) at t)
      where
        is : (kind : Kind) → (kind ≡ Numbers → HoldingNumbers s l) → (i x y : ℕ) → Inside s i x y
            → pixel_part (rct_of kind (pixel_at (values_in s l) x y)) (values_in s l i x y) i ≡ coloured_of kind Cpih (values_in s l) i x y
        is Samples _ i x y p = sym (coloured_rct one (values_in s l) i x y)
        is Numbers numbers i x y p = raised_part one (values_in s l) i x y ((numbers refl).number i x y p)

-- ---- no transform
pub none_held : {s : Shape} {Cpih : ℕ} {l : List ℤ} → Cpih ≢ 1 → (kind : Kind) → (kind ≡ Numbers → HoldingNumbers s l) → Holding s (coloured_of kind Cpih (values_in s l)) l l
none_held {s} {Cpih} {l} none kind numbers =
    record { same = refl; values = λ i x y p. sym (kept_none none kind (values_in s l) i x y (λ n. (numbers n).number i x y p)); other = λ n h. refl }
