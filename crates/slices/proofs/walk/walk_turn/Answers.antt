use Prim.Native.Nat.{◌+◌}
use mathlib.Core.Path.{◌∙◌}
use mathlib.Core.List.{[], ◌∷◌}
use native.Mathlib.Omega.{arith}
use Rattle.rows.specs.Rows.{check, ample, first}
use Rattle.rows.specs.declared.Row.TheVariants.{Cut, Length}
use Rattle.rows.specs.declared.Field.TheVariants.{Lprc, Precinct as PrecinctField}
use Rattle.slices.proofs.PrecinctLaws.{head_most}
use Rattle.slices.proofs.WalkLaws.{walk_turned}
use Rattle.slices.proofs.walk.walk_turn.Goals as goal

pub overflow_add-size : goal.overflow_add-size
overflow_add-size c = omega (arith, head_most c.requires.0, c.requires, c.u24_at-lprc.ensures.below)

pub overflow_add-at : goal.overflow_add-at
overflow_add-at c = omega (arith, head_most c.requires.0, c.requires, c.u24_at-lprc.ensures.below)

pub returns : goal.returns
returns c =
    let a = c.args in
    let hb = c.requires.0.head in
    let l = c.u24_at-lprc.ensures.value in
    let there = c.left-there.ensures in
    let r = c.step.ensures in
    walk_turned a.s.now a.c a.at a.n
    (c.first-v.ensures
    ∙ (λ i. first (check Cut a.at Lprc (there i) 3 ample ∷ check Length a.at PrecinctField (hb i + l i) 0 (there i) ∷ [])))
    (omega (arith, hb, l)) r.0 r.1 r.2
