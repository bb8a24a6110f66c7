-- `packets::passes::any_line` meets its contract. Assumes nothing.
use mathlib.Core.Path.{◌≡◌, sym, ap, ◌∙◌}
use native.Mathlib.Omega.{arith}
use Rattle.layout.specs.Slots.{candidates}
use Rattle.layout.specs.declared.Line.{Line}
use Rattle.packets.proofs.LinePasses.{any_later, any_none, any_more}
use Rattle.packets.proofs.passes.any_line.Goals as goal

pub loop-j-init : goal.loop-j-init
loop-j-init c = any_none _ _ _

pub returns-then-candidate : goal.returns-then-candidate
returns-then-candidate c =
    let a = c.args in
    sym (any_later _ _ _ c.loop-j.j (candidates a.c.shape a.slot) (omega (arith, c.loop-j-test.true, c.candidate_count-n.ensures.0)) (ap (λ (c : Line). c.present) (sym c.candidate.ensures) ∙ c.if-candidate.true))

pub loop-j-preserved : goal.loop-j-preserved
loop-j-preserved c = any_more _ _ _ _ c.loop-j.invariant c.candidate.ensures c.if-candidate.false

pub returns : goal.returns
returns c =
    let l = c.loop-j in
    let a = c.args in
    let e : l.j ≡ candidates a.c.shape a.slot = omega (arith, c.candidate_count-n.ensures.0, c.loop-j-test.false) in
    sym (rw e at l.invariant)
