-- Streams that are the same in a part.
use Rattle.std.specs.Prelude.{ℕ, ◌≤◌, ◌<◌, ◌≡◌, List, length, get_or}

-- two streams of one length that have the same bytes from the place `from` on, as far as the place `to`
pub record Alike (s s' : List ℕ) (from to : ℕ) : Type 0 where
  pub long : length s' ≡ length s
  pub bytes : (j : ℕ) → from ≤ j → j < to → get_or s' j 0 ≡ get_or s j 0
