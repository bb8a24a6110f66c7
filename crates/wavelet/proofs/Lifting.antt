-- A turn of the lifting loop: what it reads is as the cells were at first, so what it stores is the step of those. Assumes nothing.
use mathlib.Core.Path.{◌≡◌, refl}
use mathlib.Core.List.{List}
use Prim.Native.Nat.{ℕ, ◌+◌, ◌*◌, ◌<◌}
use native.Mathlib.Nat.{add-zero}
use native.Mathlib.Omega.{arith}
use lib.IntN.{ℤ}
use lib.ListN.{length, set}
use Rattle.whole.specs.Cells.{cell, OntoLine}
use Rattle.wavelet.specs.Filter.{Steps}
use Rattle.wavelet.specs.Runs.{step, Small, Liftable, lifted}
use Rattle.whole.proofs.Filling.{line_left, line_next, store_onto}

module _ (S : Steps ℤ) (b : ℕ) {s n c l r j : ℕ} {cells x : List ℤ} (L : Liftable s n c l r cells) (p : OntoLine c s j (lifted S b s c l r cells) cells x) (h : j < n) where
  centre : cell x (c + j * s) ≡ cell cells (c + j * s)
  centre = line_left c s L.step_up p j (λ a. absurd (omega arith))

  left : cell x (l + j * s) ≡ cell cells (l + j * s)
  left = p.off (l + j * s) (λ i a. (L.apart j i h (omega arith)).0)

  right : cell x (r + j * s) ≡ cell cells (r + j * s)
  right = p.off (r + j * s) (λ i a. (L.apart j i h (omega arith)).1)

  pub turn_inside : (c + j * s < length x) × (l + j * s < length x) × (r + j * s < length x)
  turn_inside = omega (arith, p.same, L.inside j h)

  pub turn_small : Small (cell x (c + j * s)) (cell x (l + j * s)) (cell x (r + j * s))
  turn_small = rw (centre, left, right) (L.small j h)

  turn_value : step S b (cell x (c + j * s)) (cell x (l + j * s)) (cell x (r + j * s)) ≡ lifted S b s c l r cells j
  turn_value = rw (centre, left, right)

  pub turn_step : OntoLine c s (j + 1) (lifted S b s c l r cells) cells (set x (c + j * s) (step S b (cell x (c + j * s)) (cell x (l + j * s)) (cell x (r + j * s))))
  turn_step =
      line_next c s L.step_up p j 1 (c + j * s) refl (λ i a. omega arith) (λ i a. omega arith) (λ i a u. u) (λ i a u. absurd (omega arith))
      (λ i a. let e : i ≡ 0 = omega arith in rw (e, add-zero) turn_value)
      (store_onto x (c + j * s) s _ turn_inside.0)
