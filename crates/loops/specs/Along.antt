-- What a counting loop says: each turn says something, and so does its end.
use Rattle.std.specs.Prelude.{ℕ, zero, suc, ◌+◌, List, [], ◌++◌}
use Rattle.loops.specs.Run.{Turn, then}

-- what is said from turn g on, one after the other. Behind a turn that stops nothing is
unfoldable pub along : {S R A : Type 0} → (ℕ → S → Turn S R) → (ℕ → S → List A) → (S → List A) → ℕ → ℕ → S → List A
along turn says last zero g x = last x
along turn says last (suc left) g x = says g x ++ then (turn g x) (λ y. along turn says last left (g + 1) y) (λ r. [])
