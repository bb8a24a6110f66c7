-- Fields that stand one after the other, as the rows of a syntax table do (A.1.2).
use Rattle.std.specs.Prelude.{ℕ, ◌+◌, ◌≡◌, List}
use Rattle.bits.specs.Fields.{IsField}
use Rattle.bits.specs.declared.cursor.Cursor.{Cursor}

-- what reading u(n) at a cursor answers: the field r there, and the cursor past it
pub record Steps (s : List ℕ) (c : Cursor) (n r : ℕ) (past : Cursor) : Type 0 where
  pub here : IsField s c.at n r
  pub next : past.at ≡ c.at + n
