-- Streams that agree before a place: so do the component table and the weights table there, and their checks. Assumes nothing.
use Prim.Native.Nat.{ℕ, zero, suc, ◌+◌, ◌*◌, ◌/◌, ◌%◌, ◌≤◌, ◌<◌, max}
use mathlib.Core.List.{List, [], ◌∷◌}
use mathlib.Core.Path.{◌≡◌, refl}
use native.Mathlib.Nat.{mod-lt}
use native.Mathlib.Omega.{arith}
use Rattle.bits.specs.Alike.{Alike}
use Rattle.rows.specs.Rows.{check}
use Rattle.rows.specs.declared.Field.TheVariants.{G}
use Rattle.rows.specs.declared.Row.TheVariants.{Value}
use Rattle.rows.proofs.Tables.{each_alike}
use Rattle.picture.specs.declared.picture.Picture.{Picture}
use Rattle.picture.proofs.Alike.{bits_alike, bytes_alike}
use Rattle.segments.specs.Bands.{bands, exists, existing}
use Rattle.segments.specs.Components.{depth_at, sx_at, sy_at, component_at, widest, component_checks, components_checks}
use Rattle.segments.specs.Weights.{band_in, bands_in, gain_row, gain_checks}

module _ {s s' : List ℕ} {to : ℕ} (alike : Alike s s' 0 to) where
  -- A.4.5: the component table at p
  pub component_alike : (p c : ℕ) → p + 6 + 2 * c ≤ to → component_at s' p c ≡ component_at s p c
  component_alike p c h =
      λ i.
      record {
        depth = bytes_alike alike (p + 4 + 2 * c) 8 (omega arith) i;
        sx = bytes_alike alike (p + 5 + 2 * c) 4 (omega arith) i;
        sy = bits_alike alike (p + 5 + 2 * c) 4 4 (omega arith) i;
      }

  widest_alike : (p n : ℕ) → p + 4 + 2 * n ≤ to → widest s' p n ≡ widest s p n
  unfolding widest
  widest_alike p zero h = refl
  widest_alike p (suc n) h = λ i. max (widest_alike p n (omega arith) i) (component_alike p n (omega arith) i).sx

  module _ (h : Picture) (cdt : ℕ) (table : cdt + 4 + 2 * h.nc ≤ to) where
    pub components_alike : components_checks s' h cdt ≡ components_checks s h cdt
    components_alike = each_alike h.nc (component_checks s' h cdt) (component_checks s h cdt) one
      where
        one : (c : ℕ) → c < h.nc → component_checks s' h cdt c ≡ component_checks s h cdt c
        one c l =
            let k = component_alike cdt c (omega arith) in
            let depth : depth_at s' cdt c ≡ depth_at s cdt c = λ i. (k i).depth in
            let sx : sx_at s' cdt c ≡ sx_at s cdt c = λ i. (k i).sx in
            let sy : sy_at s' cdt c ≡ sy_at s cdt c = λ i. (k i).sy in
            rw (depth, sx, sy, widest_alike cdt h.nc table)

    -- the bands that exist by it
    pub band_alike : 0 < h.nc → (b : ℕ) → band_in s' h cdt b ≡ band_in s h cdt b
    band_alike some b =
        let m = mod-lt b some in
        λ i. exists h.nlx h.nly (component_alike cdt (b % h.nc) (omega arith) i).sy (b / h.nc)

    pub bands_alike : 0 < h.nc → bands_in s' h cdt ≡ bands_in s h cdt
    bands_alike some = λ i. existing (λ b. band_alike some b i) (bands h.nc h.nlx h.nly)

  -- A.4.12: the weights table at p
  pub gains_alike : (p n : ℕ) → p + 4 + 2 * n ≤ to → gain_checks s' p n ≡ gain_checks s p n
  gains_alike p n l =
      each_alike n (gain_row s' p) (gain_row s p) (λ k m i. check Value (p + 4 + 2 * k) G (bytes_alike alike (p + 4 + 2 * k) 8 (omega arith) i) 0 15 ∷ [])
