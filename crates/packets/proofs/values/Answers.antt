-- `packets::values` meets its contract. Assumes nothing.
use mathlib.Core.Path.{sym, ◌∙◌}
use Rattle.rows.specs.Rows.{answered}
use Rattle.rows.proofs.Passing.{handed_on}
use Rattle.packets.proofs.Stretches.{values_are, signs_are, signed}
use Rattle.packets.proofs.values.Goals as goal

pub returns-in_err-first : goal.returns-in_err-first
returns-in_err-first c =
    let a = c.args in
    let used = c.bytes_of_bits-used in
    let read = c.packet_values-next.ensures in
    signed a.s.now a.c a.p a.slot a.parts.at a.cells.now
    (values_are a.s.now a.c a.p a.slot a.parts.at c.requires.1 a.cells.now read used.ensures c.first.ensures)
    (signs_are a.s.now a.c a.p a.slot a.parts.at c.requires.1 a.cells.now read used.ensures)
    (handed_on c.branch-first.ensures c.in_err-first.is c.from_residual.ensures.1 ∙ (λ i. answered (sym c.in_err-first.was i) used.result))
