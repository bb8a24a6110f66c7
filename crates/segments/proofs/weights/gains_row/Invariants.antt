-- `segments::weights::gains_row`: the gains passed refuse nothing. Assumes nothing.
use mathlib.Core.Path.{◌≡◌}
use Rattle.rows.specs.Rows.{first, Fine}
use Rattle.segments.specs.Weights.{gain_checks}
use Rattle.segments.proofs.weights.gains_row.Given as goal

abbrev pub invariant-loop-k : goal.invariant-loop-k
invariant-loop-k l = first (gain_checks l.s l.p l.k) ≡ Fine
