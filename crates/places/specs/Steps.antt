-- What filling the cells with the coefficients' numbers answers.
use Rattle.std.specs.Prelude.{◌≡◌, List, ℕ, ◌+◌, ◌≤◌, ◌<◌, ℤ, pos, length}
use Rattle.whole.specs.Cells.{cell}
use Rattle.layout.specs.Cells.{area, start}
use Rattle.packets.specs.declared.Setting.{Setting}
use Rattle.planes.specs.Values.{Every}
use Rattle.planes.specs.Places.{coefficients_in}
use Rattle.places.specs.Own.{own_number}

-- l' is l with each coefficient's own number in the place of the coefficient, and with no other cell changed
pub record Filled (s : List ℕ) (c : Setting) (at : ℕ) (l l' : List ℤ) : Type 0 where
  pub same : length l' ≡ length l
  pub number : Every c.shape (λ i k dx dy x y. coefficients_in c.shape l' i k dx dy x y ≡ pos (own_number s c at i k dx dy x y))
  pub other : (n : ℕ) → ((i : ℕ) → i < c.shape.nc → start c.shape i ≤ n → start c.shape i + area c.shape i ≤ n) → cell l' n ≡ cell l n
