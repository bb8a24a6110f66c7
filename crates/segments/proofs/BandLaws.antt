-- Laws of bands: how many there are. Assumes nothing.
use Prim.Native.Nat.{ℕ, ◌+◌, ◌/◌, ◌%◌, ◌≤◌, ◌<◌}
use mathlib.Core.Bool.{Bool, cond}
use mathlib.Core.Path.{◌≡◌}
use native.Mathlib.Nat.{mul_comm, mul-le-mul, mod-lt, div-lt_iff_lt-mul}
use native.Mathlib.Numerals.{add-one}
use native.Mathlib.Omega.{arith}
use Rattle.layout.specs.Bands.{filters}
use Rattle.picture.specs.Picture.{Built}
use Rattle.picture.specs.declared.picture.Picture.{Picture}
use Rattle.segments.specs.Bands.{bands, existing}

module _ {h : Picture} (x : Built h) where
  types_few : filters h.nlx h.nly ≤ 10
  types_few = omega (arith, x.nlx.1, x.nly.0, x.nly.1)

  pub bands_few : bands h.nc h.nlx h.nly ≤ 40
  bands_few = mul-le-mul {n₂ = 4} {m₂ = 10} x.nc.1 types_few

  -- band b is of component b mod Nc and of filter type b / Nc
  pub band_component : (b : ℕ) → b % h.nc < 256
  band_component b = omega (arith, x.nc.1, mod-lt b {m = h.nc} x.nc.0)

  pub band_type : (b : ℕ) → b < bands h.nc h.nlx h.nly → b / h.nc < filters h.nlx h.nly
  band_type b l = (div-lt_iff_lt-mul {k = h.nc} {x = b} x.nc.0).1 (rw mul_comm at l)

-- one band more
pub existing_more : (is : ℕ → Bool) (b : ℕ) {n r : ℕ} → n ≡ existing is b → r ≡ cond (is b) 1 0 → n + r ≡ existing is (b + 1)
unfolding existing
existing_more is b e f = rw (add-one, e, f)
