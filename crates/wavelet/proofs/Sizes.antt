-- The steps as a machine has them: what fits an i64 on the way. Assumes nothing.
use Prim.Native.Nat.{ℕ, ◌^◌, ◌<◌}
use native.Mathlib.Omega.{arith}
use lib.IntN.{ℤ, pos, nat_abs, ◌+ℤ◌}
use lib.Signed.{shr_z}
use mir.Syntax.{w64}
use mir.Val.{SFits}
use Rattle.whole.specs.Numbers.{Within}
use Rattle.whole.proofs.Linear.{add_z, abs_z}
use Rattle.whole.proofs.Machine.{fits_z, shr_fits, small_fits}
use Rattle.whole.proofs.Within.{within_of_size, size_of_within}
use Rattle.wavelet.specs.Filter.{even_step, odd_step}
use Rattle.wavelet.specs.Kinds.{even_rise, odd_rise}
use Rattle.wavelet.specs.Runs.{Summable, Small}
use Rattle.wavelet.proofs.Within.{even_within, odd_within, even_rise_within, odd_rise_within}

-- the neighbours' sum, and its quarter and half
module _ {l r more : ℤ} (h : Summable l r more) where
  pub sum_fits : SFits w64 (l +ℤ r)
  sum_fits = fits_z (l +ℤ r) (omega (arith, abs_z l, abs_z r, add_z l r, h.small_l, h.small_r))

  pub sum_more_fits : SFits w64 (l +ℤ r +ℤ more)
  sum_more_fits = fits_z (l +ℤ r +ℤ more) (omega (arith, abs_z l, abs_z r, abs_z more, add_z l r, add_z (l +ℤ r) more, h.small_l, h.small_r, h.small_more))

  pub shift_fits : (m : ℕ) → SFits w64 (shr_z (l +ℤ r +ℤ more) m)
  shift_fits m = shr_fits m sum_more_fits

-- each result, by the distance rule from 0
module _ {x l r : ℤ} (h : Small x l r) where
  near_l : Within (nat_abs l) l (pos 0)
  near_l = within_of_size l (omega arith)

  near_r : Within (nat_abs r) r (pos 0)
  near_r = within_of_size r (omega arith)

  near_x : Within (nat_abs x) x (pos 0)
  near_x = within_of_size x (omega arith)

  result_fits : (z : ℤ) {e : ℕ} → Within e z (pos 0) → e < 2 ^ 63 → SFits w64 z
  result_fits z p b = small_fits z (omega (arith, size_of_within p))

  pub even_fits : SFits w64 (even_step x l r)
  even_fits = result_fits (even_step x l r) (even_within near_l near_r near_x) (omega (arith, h.small_x, h.small_l, h.small_r))

  pub odd_fits : SFits w64 (odd_step x l r)
  odd_fits = result_fits (odd_step x l r) (odd_within near_l near_r near_x) (omega (arith, h.small_x, h.small_l, h.small_r))

  pub even_rise_fits : SFits w64 (even_rise x l r)
  even_rise_fits = result_fits (even_rise x l r) (even_rise_within near_l near_r near_x) (omega (arith, h.small_x, h.small_l, h.small_r))

  pub odd_rise_fits : SFits w64 (odd_rise x l r)
  odd_rise_fits = result_fits (odd_rise x l r) (odd_rise_within near_l near_r near_x) (omega (arith, h.small_x, h.small_l, h.small_r))
