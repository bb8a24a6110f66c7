-- `header::header::walk_by`: by the verdict; what holds of an accepted opening lets the walk begin. Assumes nothing.
use Prim.Native.Nat.{zero-le}
use mathlib.Core.Path.{sym, ◌∙◌}
use native.Mathlib.Omega.{arith}
use Rattle.header.specs.Header.{walk_by}
use Rattle.header.specs.Walk.{ended}
use Rattle.header.proofs.header.walk_by.Goals as goal

pub overflow_add-p : goal.overflow_add-p
overflow_add-p c =
    let o = c.requires c.in-Ok.is in
    omega (arith, o.behind, o.short)

pub walk_from-requires : goal.walk_from-requires
walk_from-requires c =
    let o = c.requires c.in-Ok.is in
    (o.built, o.short, o.behind)

pub returns-in-Ok : goal.returns-in-Ok
returns-in-Ok c =
    let a = c.args in
    let w = c.walk_from.ensures in
    (w.value ∙ (λ i. walk_by (sym c.in-Ok.is i) a.s.now a.h a.p), w.inside)

pub returns-in-Err : goal.returns-in-Err
returns-in-Err c =
    let a = c.args in
    let v = c.in-Err.is in
    let e = c.end.ensures ∙ (λ i. ended (v i) 0 (c.none.ensures i)) in
    (e ∙ (λ i. walk_by (sym v i) a.s.now a.h a.p), rw e (record { at = zero-le; cdt = zero-le; wgt = zero-le }))
