-- `segments::components::filter_row`: the levels passed refuse nothing. Assumes nothing.
use mathlib.Core.Path.{◌≡◌}
use Rattle.rows.specs.Rows.{first, Fine}
use Rattle.segments.specs.Components.{filter_checks}
use Rattle.segments.proofs.components.filter_row.Given as goal

abbrev pub invariant-loop-d : goal.invariant-loop-d
invariant-loop-d l = first (filter_checks l.field l.place l.n l.d) ≡ Fine
