-- E.6 and E.7: a line of samples extended past its ends, and the inverse 5-3 filter over it. The filter's two steps are a parameter, so that
-- samples (here) and distance numbers (Distance) go the same way.
use Rattle.std.specs.Prelude.{cond, ℕ, suc, ◌*◌, ◌-◌, ◌%◌, eqb, ltb, ℤ, pos, negsuc, ◌+ℤ◌, ◌-ℤ◌}
use Rattle.std.specs.Int.Signed.{shr_z}
use Rattle.whole.specs.Numbers.{gap}

-- E.6, Table E.5: the line X of Z samples, read past its ends, X[−i] = X[i] and X[Z + i − 1] = X[Z − i − 1]. Where Z is 2 the second's right
-- side is X[−1], and so X[1]: hence the size of the difference 2 (Z − 1) − p
unfoldable pub extended : {A : Type 0} → ℕ → (ℕ → A) → ℤ → A
extended Z X (negsuc i) = X (suc i)
extended Z X (pos p) = cond (ltb p Z) (X p) (X (gap (2 * (Z - 1)) p))

-- the two steps of Table E.6: a value and its two neighbours
pub record Steps (A : Type 0) : Type 0 where
  pub even : A → A → A → A
  pub odd : A → A → A → A

-- E.7, Table E.6: Y[i] at an even i, at an odd i, and at any
unfoldable pub even_out : {A : Type 0} → Steps A → ℕ → (ℕ → A) → ℤ → A
even_out S Z X i = S.even (extended Z X i) (extended Z X (i -ℤ pos 1)) (extended Z X (i +ℤ pos 1))

unfoldable pub odd_out : {A : Type 0} → Steps A → ℕ → (ℕ → A) → ℤ → A
odd_out S Z X i = S.odd (extended Z X i) (even_out S Z X (i -ℤ pos 1)) (even_out S Z X (i +ℤ pos 1))

unfoldable pub filter : {A : Type 0} → Steps A → ℕ → (ℕ → A) → ℕ → A
filter S Z X i = cond (eqb (i % 2) 0) (even_out S Z X (pos i)) (odd_out S Z X (pos i))

-- the steps of samples: X[i] − ((X[i − 1] + X[i + 1] + 2) >> 2) and X[i] + ((Y[i − 1] + Y[i + 1]) >> 1)
abbrev pub even_step : ℤ → ℤ → ℤ → ℤ
even_step x l r = x -ℤ shr_z (l +ℤ r +ℤ pos 2) 4

abbrev pub odd_step : ℤ → ℤ → ℤ → ℤ
odd_step x l r = x +ℤ shr_z (l +ℤ r) 2

unfoldable pub samples : Steps ℤ
samples = record { even = even_step; odd = odd_step }
