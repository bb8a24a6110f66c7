-- What the functions below a line ask and answer on the way.
use Rattle.std.specs.Prelude.{ℕ, ◌≤◌, ◌<◌, ◌≡◌, Bool, true, false, List, ℤ, pos}
use Rattle.counts.specs.Codes.{ones}
use Rattle.counts.specs.Lines.{above}
use Rattle.counts.specs.declared.Place.{Place}
use Rattle.counts.specs.declared.group.Mode.{Mode}
use Rattle.counts.specs.declared.group.Mode.TheVariants.{Raw, NoPrediction, Vertical}

-- what a window of 57 bits or more from bit i on tells: the 1-bits up to any limit, where a 0 ends them in it and before the limit
pub record Ahead (s : List ℕ) (i r : ℕ) : Type 0 where
  pub most : r ≤ 64
  pub ended : (limit : ℕ) → r < 57 → r < limit → r ≡ ones s i limit

abbrev pub is_raw : Mode → Bool
is_raw Raw = true
is_raw NoPrediction = false
is_raw Vertical = false

-- the cell that predicts. No prediction is vertical prediction below a group with M = 0 and truncation position 0 (`none_is_vertical`), so that one way serves
-- for both, with an empty cell where none predicts. Raw has no predictor, and its row is not looked at
unfoldable pub looked_at : Mode → Place → ℕ → List ℤ → ℤ
looked_at Raw p g cells = pos 0
looked_at NoPrediction p g cells = pos 0
looked_at Vertical p g cells = above p g cells
