-- What a table's verdict says, check by check. The laws `fine_iff`, `held_iff` and `first_breaks` join these to `first`, both ways.
use Rattle.std.specs.Prelude.{◌≤◌, true, false, ◌≡◌}
use mathlib.Core.List.{List, [], ◌∷◌, ◌++◌, Memᴰ}
use Rattle.rows.specs.Rows.{broken}
use Rattle.rows.specs.declared.Check.{Check}

-- no check of a table is broken
abbrev pub Unbroken : List Check → Type 0
Unbroken t = (c : Check) → Memᴰ c t → broken c ≡ false

-- the value found is from the least to the most
pub record Holds (c : Check) : Type 0 where
  pub least : c.4 ≤ c.3
  pub most : c.3 ≤ c.5

-- each check of a table holds: the same as `Unbroken`, by the numbers
abbrev pub Held : List Check → Type 0
Held [] = Unit {0}
Held (c ∷ cs) = Holds c × Held cs

-- what a table's refusal says: the check stands there, it is broken, and each before it holds
pub record FirstBroken (t : List Check) (c : Check) : Type 0 where
  pub before : List Check
  pub after : List Check
  pub stands : t ≡ before ++ (c ∷ after)
  pub earlier : Held before
  pub breaks : broken c ≡ true
