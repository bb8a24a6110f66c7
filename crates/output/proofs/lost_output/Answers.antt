-- `output::lost_output` meets its contract. The invariant: the first x distances are what their marks make of them, the others are as they were. Assumes nothing.
use mathlib.Core.Path.{◌≡◌, sym, ap, ap₂, ◌∙◌}
use mathlib.Core.Bool.{cond}
use mathlib.Core.List.{List}
use Prim.Native.Nat.{ℕ, ◌-◌}
use native.Mathlib.Omega.{arith}
use lib.Dec.{eqb}
use lib.ListN.{get_or}
use Rattle.whole.proofs.Machine.{one_shl}
use Rattle.whole.proofs.Passes.{mapped_none, mapped_here, mapped_all}
use Rattle.output.proofs.Laws.{pass_goes}
use Rattle.output.proofs.lost_output.Invariants.{losses}
use Rattle.output.proofs.lost_output.Goals as goal

pub loop-x-init : goal.loop-x-init
loop-x-init c = sym (mapped_none _ _)

pub loop-x-preserved : goal.loop-x-preserved
loop-x-preserved c =
    let a = c.args in
    let x : ℕ = c.loop-x.x in
    let g : ℕ → ℕ → ℕ = losses a.marks.now a.b in
    let here : get_or c.loop-x.out x 0 ≡ get_or a.out.now x 0 = ap (λ (l : List ℕ). get_or l x 0) c.loop-x.invariant ∙ mapped_here g x a.out.now 0 in
    let gave : c.unless_lost.result ≡ g x (get_or a.out.now x 0) =
    c.unless_lost.ensures ∙ ap₂ (cond (eqb (get_or a.marks.now x 0) 0)) here (ap (λ (n : ℕ). n - 1) (one_shl a.b (omega (arith, c.requires.0)))) in
    pass_goes g x a.out.now 0 c.loop-x.invariant gave c.loop-x-test.true

pub returns : goal.returns
returns c = c.loop-x.invariant ∙ mapped_all _ _ _ (omega arith)
