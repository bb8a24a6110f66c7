-- The filter types of the distance rule are those of the layout. Assumes nothing.
use mathlib.Core.Path.{◌≡◌, sym, ap, ◌∙◌}
use mathlib.Core.Bool.{true}
use Prim.Native.Nat.{ℕ, ◌+◌, ◌*◌, ◌-◌, ◌≤◌, ◌<◌, min}
use native.Mathlib.Nat.{mul-le-mul}
use native.Mathlib.Decide.{dec_lt}
use native.Mathlib.Omega.{arith}
use borrow.Author.Tests.{lt-ltb, le-ltb}
use Rattle.wavelet.specs.Transform.{Kind, LL, HL, LH, HH}
use Rattle.wavelet.specs.Bands.{τx, τy, Has, Coefficient}
use Rattle.wavelet.specs.Places.{place}
use Rattle.layout.specs.declared.Shape.{Shape}
use Rattle.layout.specs.Bands.{Wc, Hc, N'x, N'y, Nβ, filter_type, band, kind, dx, dy, depth, exists}
use Rattle.layout.specs.Built.{Built}
use Rattle.layout.specs.Cells.{inner}
use Rattle.layout.proofs.Filters.{formula}
use Rattle.layout.proofs.Cells.{Exists, has_exists, has_cell}
use Rattle.layout.proofs.Existing.{BandOf, has_band, dy_is}
use Rattle.distances.specs.Rule.{type_of}

-- ---- B.3's formula, where there are levels across alone, and in the levels of both directions

pub type_deep : (s : Shape) (k : Kind) (d : ℕ) → s.nly < d → type_of s k d ≡ s.nlx - d + τx k
type_deep s k d h =
    let e : min d s.nly ≡ s.nly = omega arith in
    rw (e, lt-ltb s.nly d h)

pub type_even : (s : Shape) (k : Kind) (d : ℕ) → d ≤ s.nly → type_of s k d ≡ s.nlx - s.nly + τx k + 2 * τy k + 3 * (s.nly - d)
type_even s k d h =
    let e : min d s.nly ≡ d = omega arith in
    rw (e, le-ltb d d (omega arith))

module _ (s : Shape) (built : Built s) where
  pub type_low : type_of s LL s.nlx ≡ 0
  type_low = by (dec_lt s.nly s.nlx)
    where
      by : Dec (s.nly < s.nlx) → type_of s LL s.nlx ≡ 0
      by (yes h) = type_deep s LL s.nlx h ∙ omega arith
      by (no n) = type_even s LL s.nlx (omega arith) ∙ omega (arith, built.no_more)

  -- HL, LH and HH of a level of both directions follow one another
  pub type_lh : (d : ℕ) → d ≤ s.nly → type_of s LH d ≡ type_of s HL d + 1
  type_lh d h = type_even s LH d h ∙ omega (arith, type_even s HL d h)

  pub type_hh : (d : ℕ) → d ≤ s.nly → type_of s HH d ≡ type_of s HL d + 2
  type_hh d h = type_even s HH d h ∙ omega (arith, type_even s HL d h)

  -- a level's filter types are among those of the picture
  pub type_below : (d : ℕ) → 0 < d → d ≤ s.nlx → type_of s HL d < Nβ s
  type_below d up h = by (dec_lt s.nly d)
    where
      by : Dec (s.nly < d) → type_of s HL d < Nβ s
      by (yes l) = omega (arith, type_deep s HL d l)
      by (no n) = omega (arith, type_even s HL d (omega arith), built.no_more)

  pub types_below : (d : ℕ) → 0 < d → d ≤ s.nly → type_of s HL d + 2 < Nβ s
  types_below d up h = omega (arith, type_even s HL d h, built.no_more)

  -- there are 40 bands or fewer
  pub band_below : (i β : ℕ) → i < s.nc → β < Nβ s → band s β i < 40
  band_below i β h b =
      let nine : β ≤ 9 = omega (arith, built.levels, built.down_levels) in
      omega (arith, built.few, mul-le-mul {n₁ = s.nc} {m₁ = β} {n₂ = 4} {m₂ = 9} built.few nine)

-- ---- a band that a component has is the layout's band of this filter type

pub record BandAt (s : Shape) (i : ℕ) (k : Kind) (x y β : ℕ) : Type 0 where
  pub below : β < Nβ s
  pub there : exists s β i ≡ true
  pub letters : kind s β ≡ k
  pub across : dx s β ≡ x
  pub down : depth s β i ≡ y

module _ (s : Shape) (built : Built s) (i : ℕ) (c : i < s.nc) (k : Kind) (x y : ℕ) where
  found : (b : BandOf s built i c k x y) → b.β ≡ type_of s k x
  unfolding kind dx dy
  found b =
      let down = dy_is s built b.β b.below ∙ ap (λ (n : ℕ). min n s.nly) b.across in
      sym (formula s.nlx s.nly b.β built.no_more b.below)
      ∙ (λ j. filter_type s.nlx s.nly (τx (b.letters j)) (τy (b.letters j)) (b.across j) (down j))

  pub type_is : Has (N'x s i) (N'y s i) k x y → BandAt s i k x y (type_of s k x)
  type_is h =
      let b : BandOf s built i c k x y = has_band s built i c k x y h in
      let at : BandAt s i k x y b.β = record { below = b.below; there = b.there; letters = b.letters; across = b.across; down = b.down } in
      rw (found b) at at

  -- and a coefficient of it is one of the layout's, which stands where the transform takes it
  module _ {column row : ℕ} (d : Coefficient (Wc s i) (Hc s i) s.nlx (N'y s i) k x y column row) where
    pub type_exists : Exists s i (type_of s k x) column row
    type_exists = rw (found (has_band s built i c k x y d.has)) at (has_exists s built i c d)

    pub type_cell : inner s (type_of s k x) i column row ≡ place (τy k) y row * Wc s i + place (τx k) x column
    type_cell = rw (found (has_band s built i c k x y d.has)) at (has_cell s built i c d)
