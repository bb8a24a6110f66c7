-- `segments::components::components_row`: the components passed refuse nothing. Assumes nothing.
use mathlib.Core.Path.{◌≡◌}
use Rattle.rows.specs.Rows.{first, each, Fine}
use Rattle.segments.specs.Components.{component_checks}
use Rattle.segments.proofs.components.components_row.Given as goal

abbrev pub invariant-loop-c : goal.invariant-loop-c
invariant-loop-c l = first (each l.c (component_checks l.s l.h l.p)) ≡ Fine
