-- `segments::tables::full_tail` meets its contract. Assumes nothing.
use Prim.Native.Nat.{◌+◌}
use mathlib.Core.Bool.{cond, ◌&&◌}
use mathlib.Core.Path.{◌≡◌, refl, sym, ◌∙◌}
use native.Mathlib.Numerals.{add-one}
use native.Mathlib.Omega.{arith}
use lib.Dec.{eqb}
use Rattle.segments.specs.Segments.{full_tail}
use Rattle.segments.proofs.NumberLaws.{cond_le}
use Rattle.segments.proofs.tables.full_tail.Goals.{then-full, else-full}
use Rattle.segments.proofs.tables.full_tail.Goals as goal

pub loop-c-init : goal.loop-c-init
unfolding full_tail
loop-c-init c = (refl, omega arith)

pub loop-c-preserved : goal.loop-c-preserved
unfolding full_tail
loop-c-preserved c =
    let l = c.loop-c in
    let full = eqb c.sx_at.result 1 && eqb c.sy_at.result 1 in
    let told : c.if-full.tail ≡ cond full (l.tail + 1) 0 =
    elim c.if-full.branch [ then-full w ↦ w.tail-is ∙ (λ i. cond (sym w.if-full.true i) (l.tail + 1) 0) | else-full w ↦ w.tail-is ∙ (λ i. cond (sym w.if-full.false i) (l.tail + 1) 0) ] in
    let e = told ∙ (λ i. cond (eqb (c.sx_at.ensures.value i) 1 && eqb (c.sy_at.ensures.value i) 1) (l.invariant.0 i + 1) 0) in
    (rw add-one e, cond_le full (l.tail + 1) 0 (l.c + 1) (omega arith) (omega arith) told)
