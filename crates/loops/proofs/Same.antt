-- Two counting loops whose turns are the same. Assumes nothing.
use Prim.Native.Nat.{ℕ, zero, suc, ◌+◌, ◌≤◌, ◌<◌}
use mathlib.Core.Path.{◌≡◌, refl, ◌∙◌}
use native.Mathlib.Omega.{arith}
use Rattle.loops.specs.Run.{Turn, go, stop, then, run}

module _ {S R : Type 0} (turn turn' : ℕ → S → Turn S R) (end : S → R) (n : ℕ) (each : (g : ℕ) (x : S) → g < n → turn' g x ≡ turn g x) where
  pub run_same : (left g : ℕ) (x : S) → g + left ≤ n → run turn' end left g x ≡ run turn end left g x
  unfolding run
  run_same zero g x h = refl
  run_same (suc left) g x h =
      (λ i. then (each g x (omega arith) i) (λ y. run turn' end left (g + 1) y) (λ r. r)) ∙ pick (turn g x) (λ y. run_same left (g + 1) y (omega arith))
    where
      pick : (t : Turn S R) → ((y : S) → run turn' end left (g + 1) y ≡ run turn end left (g + 1) y)
          → then t (λ y. run turn' end left (g + 1) y) (λ r. r) ≡ then t (λ y. run turn end left (g + 1) y) (λ r. r)
      pick (go y) later = later y
      pick (stop r) later = refl
