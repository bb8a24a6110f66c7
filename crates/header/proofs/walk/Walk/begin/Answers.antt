-- `header::walk::Walk::begin`: nothing is seen yet. Assumes nothing.
use mathlib.Core.Bool.{false}
use Rattle.rows.specs.Rows.{Fine}
use Rattle.header.proofs.walk.Walk.begin.Goals as goal

pub returns : goal.returns
returns c =
    λ i. record { at = c.args.at; done = false; verdict = Fine; seen = c.none.ensures i }
