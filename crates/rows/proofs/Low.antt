-- Tables without Count and Mode, the rows of document 01 that stand in precincts alone. Assumes nothing.
use Prim.Native.Nat.{ℕ, zero, suc, ◌≤◌}
use mathlib.Core.Bool.{Bool, true, false, cond}
use mathlib.Core.List.{List, [], ◌∷◌, ◌++◌}
use native.Mathlib.Omega.{arith}
use Rattle.rows.specs.Rows.{number, broken, first, each, answer, Refused}
use Rattle.rows.specs.declared.Check.{Check}

-- each row of the table has a number up to 6
abbrev pub Low : List Check → Type 0
Low [] = Unit {0}
Low (c ∷ cs) = (number c.0 ≤ 6) × Low cs

pub low : (t : List Check) → Low t → answer (first t) ≤ 6
low [] h = omega arith
low (c ∷ cs) h = pick (broken c) (low cs h.1)
  where
    pick : (b : Bool) → answer (first cs) ≤ 6 → answer (cond b (Refused c) (first cs)) ≤ 6
    pick true later = h.0
    pick false later = later

pub low_append : (xs ys : List Check) → Low xs → Low ys → Low (xs ++ ys)
low_append [] ys h k = k
low_append (c ∷ cs) ys h k = (h.0, low_append cs ys h.1 k)

pub low_each : (n : ℕ) (f : ℕ → List Check) → ((k : ℕ) → Low (f k)) → Low (each n f)
unfolding each
low_each zero f h = tt
low_each (suc n) f h = low_append (each n f) (f n) (low_each n f h) (h n)
