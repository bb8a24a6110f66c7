-- The lowest number that passes a test.
use Rattle.std.specs.Prelude.{ℕ, zero, suc, Bool, cond, ltb}

-- the lowest number below n that passes, and n where none does
unfoldable pub lowest : (ℕ → Bool) → ℕ → ℕ
lowest f zero = 0
lowest f (suc n) = cond (f 0) 0 (suc (lowest (λ k. f (suc k)) n))

-- whether a number below n passes
unfoldable pub some : (ℕ → Bool) → ℕ → Bool
some f n = ltb (lowest f n) n
