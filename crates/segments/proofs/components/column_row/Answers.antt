-- `segments::components::column_row`: the table, by the numbers of its helpers. Assumes nothing.
use Prim.Native.Nat.{◌*◌, ◌^◌}
use mathlib.Core.Path.{◌∙◌}
use native.Mathlib.Nat.{mul_assoc}
use Rattle.segments.proofs.components.column_row.Goals as goal

pub returns : goal.returns
returns c =
    let a = c.args in
    let x = c.requires in
    c.first.ensures
    ∙ rw (c.least_column-least.ensures, c.last_column-last.ensures, c.column_unit-unit.ensures.0, ← mul_assoc (8 * a.h.cw) a.m (2 ^ a.h.nlx), x.3)
