-- The loop of the walk: steps from one segment to the next, until it ends.
use Rattle.std.specs.Prelude.{ℕ, ◌+◌, ◌≤◌, false, cond, List, ◌≡◌, length}
use Rattle.loops.specs.Run.{Turn, go, stop, until}
use Rattle.rows.specs.Rows.{Fine}
use Rattle.picture.specs.declared.picture.Picture.{Picture}
use Rattle.segments.specs.Segments.{none_seen}
use Rattle.header.specs.Walk.{step}
use Rattle.header.specs.declared.walk.Walk.{Walk}

unfoldable pub turn : List ℕ → Picture → Walk → Turn Walk Walk
turn s h w = cond w.done (stop w) (go (step s h w))

-- the walk from the place p. The stream's length bounds its turns, and no walk comes so far that `never` is its end
abbrev pub begun : ℕ → Walk
begun p = record { at = p; done = false; verdict = Fine; seen = none_seen }

abbrev pub walk_or : Walk → List ℕ → Picture → ℕ → Walk
walk_or never s h p = until (turn s h) never (length s + 2) (begun p)

unfoldable pub walk : List ℕ → Picture → ℕ → Walk
walk s h p = walk_or (begun p) s h p

-- the places of a walk are inside the stream
pub record Inside (s : List ℕ) (w : Walk) : Type 0 where
  pub at : w.at ≤ length s
  pub cdt : w.seen.cdt ≤ length s
  pub wgt : w.seen.wgt ≤ length s

-- what the walk's reader answers: that its places are inside follows, and stands beside it for the callers' sums
pub record IsWalk (s : List ℕ) (h : Picture) (p : ℕ) (w : Walk) : Type 0 where
  pub value : w ≡ walk s h p
  pub inside : Inside s w
