-- C.7.1: the variable length code of bitplane counts.
use Rattle.std.specs.Prelude.{ℕ, zero, suc, ◌+◌, ◌-◌, ◌*◌, ◌/◌, ◌%◌, cond, List, ltb, eqb, ℤ, pos, neg_ℤ}
use Rattle.bits.specs.Fields.{bit_at}
use Rattle.whole.specs.Numbers.{ceil_div}

-- Table C.17, the loop: the 1-bits from bit i on, of which it counts `limit` at most
unfoldable pub ones : List ℕ → ℕ → ℕ → ℕ
ones s i zero = 0
ones s i (suc limit) = cond (eqb (bit_at s i) 1) (suc (ones s (i + 1) limit)) 0

-- Table C.17: the signed quantity of n 1-bits in the context of a predictor r and a truncation position t. Of naturals, r − t is max(r − t, 0)
unfoldable pub vlc : ℕ → ℕ → ℕ → ℤ
vlc r t n =
    let θ = r - t in
    cond (ltb (2 * θ) n)
    (pos (n - θ))
    (cond (ltb 0 n)
    (cond (eqb (n % 2) 1) (neg_ℤ (pos (ceil_div n 2))) (pos (n / 2)))
    (pos 0))
