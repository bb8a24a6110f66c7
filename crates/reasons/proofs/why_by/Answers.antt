-- `reasons::why_by` meets its contract. Assumes nothing.
use mathlib.Core.Path.{sym, ◌∙◌}
use Rattle.reasons.specs.Why.{why_by}
use Rattle.reasons.proofs.Telling.{refused_is}
use Rattle.reasons.proofs.why_by.Goals as goal

pub read_why-requires : goal.read_why-requires
read_why-requires c = c.requires c.in-Ok.is

pub returns-in-Ok : goal.returns-in-Ok
returns-in-Ok c =
    let a = c.args in
    c.read_why.ensures ∙ (λ i. why_by (sym c.in-Ok.is i) a.stream.now a.h)

pub returns-in-Err : goal.returns-in-Err
returns-in-Err c =
    let a = c.args in
    c.refused_why.ensures ∙ refused_is a.stream.now a.h c.in-Err.is
