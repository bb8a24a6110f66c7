-- `header::weights::byte_if`: by the test. Assumes nothing.
use mathlib.Core.Bool.{cond}
use mathlib.Core.Path.{sym, ◌∙◌}
use Rattle.bits.specs.Fields.{field_at}
use Rattle.header.proofs.weights.byte_if.Goals as goal

pub returns-then-is : goal.returns-then-is
returns-then-is c =
    let a = c.args in
    c.u8_at.ensures.value ∙ (λ i. cond (sym c.if-is.true i) (field_at a.s.now a.place 8) 0)
