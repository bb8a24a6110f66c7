-- The states that a counting loop comes to.
use Rattle.std.specs.Prelude.{ℕ, zero, suc}
use Rattle.loops.specs.Run.{Turn, then}

-- the state before turn n, where no turn before has stopped
unfoldable pub before : {S R : Type 0} → (ℕ → S → Turn S R) → S → ℕ → S
before turn x zero = x
before turn x (suc n) = then (turn n (before turn x n)) (λ y. y) (λ r. before turn x n)
