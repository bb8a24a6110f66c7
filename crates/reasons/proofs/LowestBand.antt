-- The lowest band of a component, of filter type 0, has a line in every row of precincts: so every precinct holds it. Assumes nothing.
use Prim.Native.Nat.{ℕ, ◌*◌, ◌-◌, ◌/◌, ◌%◌, ◌^◌, ◌<◌}
use mathlib.Core.Path.{◌≡◌, refl, ap, ◌∙◌}
use mathlib.Core.Bool.{true}
use mathlib.Core.List.{List}
use native.Mathlib.Nat.{mul-zero, mul-one, zero-mod, mod-eq_of_lt, div-eq_of_lt}
use native.Mathlib.Omega.{arith}
use borrow.Author.Tests.{lt-ltb, eq-eqb}
use Rattle.wavelet.specs.Transform.{LL}
use Rattle.wavelet.specs.Bands.{τy, rows}
use Rattle.layout.specs.declared.Shape.{Shape}
use Rattle.layout.specs.Built.{Built}
use Rattle.layout.specs.Bands.{sy, N'y, Hc, first_types, kind, dy, depth, Hb, exists}
use Rattle.layout.specs.Precincts.{Npy, most_lines, lines}
use Rattle.layout.proofs.Reaches.{rows_low}
use Rattle.packets.specs.declared.Setting.{Setting}
use Rattle.packets.specs.declared.Precinct.{Precinct}
use Rattle.slices.specs.Precinct.{holds}
use Rattle.slices.proofs.SliceLaws.{row_inside}
use Rattle.reasons.specs.Coarsest.{per_slice, all, precinct_of, held_by}
use Rattle.reasons.proofs.Numbers.{slice_below, number_below}

module _ (s : Shape) (built : Built s) (i : ℕ) (h : i < s.nc) where
  kind_low : kind s 0 ≡ LL
  unfolding kind
  kind_low = refl

  depth_low : depth s 0 i ≡ N'y s i
  unfolding depth dy
  depth_low =
      let e = lt-ltb 0 (first_types s.nlx s.nly) (omega arith) in
      rw e (omega arith)

  low_exists : exists s 0 i ≡ true
  unfolding exists
  low_exists =
      let none : 2 ^ (s.nly - dy s 0) * τy (kind s 0) % sy s i ≡ 0 =
      (λ j. 2 ^ (s.nly - dy s 0) * τy (kind_low j) % sy s i) ∙ ap (λ (n : ℕ). n % sy s i) (mul-zero (2 ^ (s.nly - dy s 0))) ∙ zero-mod (sy s i) in
      eq-eqb (2 ^ (s.nly - dy s 0) * τy (kind s 0) % sy s i) 0 none

  -- one line in each row of precincts
  low_lines : (row : ℕ) → row < Npy s → 0 < lines s row 0 i
  unfolding lines Hb
  low_lines row l =
      let level : N'y s i - depth s 0 i ≡ 0 = omega (arith, depth_low) in
      let one : most_lines s 0 i ≡ 1 = ap (λ (n : ℕ). 2 ^ n) level in
      let high : rows (Hc s i) (kind s 0) (depth s 0 i) ≡ Npy s = (λ j. rows (Hc s i) (kind_low j) (depth_low j)) ∙ rows_low s i built h in
      omega (arith, one, high, ap (λ (n : ℕ). row * n) one ∙ mul-one row)

-- the precinct's row is one of the picture's
pub holds_low : (c : Setting) (p : Precinct) → Built c.shape → p.row < Npy c.shape → (i : ℕ) → i < c.shape.nc → holds c p i ≡ true
holds_low c p built l i h =
    let s = c.shape in
    rw (div-eq_of_lt h, mod-eq_of_lt h, low_exists s built i h, lt-ltb 0 (lines s p.row 0 i) (low_lines s built i h p.row l))

module _ (s : List ℕ) (c : Setting) (built : Built c.shape) (at p : ℕ) (h : p < all c.shape) where
  pub row_below : (precinct_of s c at p).row < Npy c.shape
  unfolding precinct_of
  row_below =
      (row_inside c.shape built (p / per_slice c.shape) (slice_below c.shape built p h) (p % per_slice c.shape) (number_below c.shape built p h)).0

  pub low_held : (i : ℕ) → i < c.shape.nc → held_by s c at p i ≡ true
  low_held i l = holds_low c (precinct_of s c at p) built row_below i l
