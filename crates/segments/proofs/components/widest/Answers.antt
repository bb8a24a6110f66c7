-- `segments::components::widest` meets its contract. Assumes nothing.
use Prim.Native.Nat.{max}
use mathlib.Core.Path.{◌≡◌, refl, ◌∙◌}
use native.Mathlib.Numerals.{add-one}
use native.Mathlib.Omega.{arith}
use borrow.Author.Rules.{rules}
use Rattle.segments.specs.Components.{widest}
use Rattle.segments.proofs.components.widest.Goals as goal

pub loop-c-init : goal.loop-c-init
unfolding widest
loop-c-init c = (refl, omega arith)

pub loop-c-preserved : goal.loop-c-preserved
unfolding widest
loop-c-preserved c =
    let l = c.loop-c in
    let x = c.sx_at.ensures in
    let most : c.max-m.result ≡ max l.m c.sx_at.result = search rules in
    let e = most ∙ (λ i. max (l.invariant.0 i) (x.value i)) in
    (rw add-one e, omega (arith, most, x.below, l.invariant.1))
