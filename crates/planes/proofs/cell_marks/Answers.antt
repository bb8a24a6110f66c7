-- `planes::cell_marks` meets its contract. The invariant: the first x marks are written, the others are as they were. Assumes nothing.
use mathlib.Core.Path.{◌≡◌, sym, ap, ◌∙◌}
use Prim.Native.Nat.{ℕ}
use native.Mathlib.Omega.{arith}
use borrow.Author.Rules.{rules}
use lib.IntN.{pos}
use mir.Syntax.{w64}
use mir.Val.{to_z, of_z}
use Rattle.whole.specs.Cells.{cell}
use Rattle.whole.proofs.Machine.{back64}
use Rattle.output.proofs.Laws.{pass_goes}
use Rattle.whole.proofs.Passes.{mapped_none, mapped_all, map_at_from}
use Rattle.planes.specs.Marks.{cell_mark}
use Rattle.planes.proofs.cell_marks.Invariants.{marks}
use Rattle.planes.proofs.cell_marks.Goals as goal

pub loop-x-init : goal.loop-x-init
loop-x-init c = sym (mapped_none _ _)

pub loop-x-preserved : goal.loop-x-preserved
loop-x-preserved c =
    let a = c.args in
    let x : ℕ = c.loop-x.x in
    let read : to_z w64 (of_z w64 (cell a.work.now x)) ≡ cell a.work.now x = search (rules, back64) in
    pass_goes (marks a.work.now) x a.out.now 0 c.loop-x.invariant (c.mark_of.ensures ∙ ap cell_mark read) c.loop-x-test.true

pub returns : goal.returns
returns c =
    c.loop-x.invariant ∙ mapped_all _ _ _ (omega arith) ∙ map_at_from cell_mark (pos 0) c.args.work.now c.args.out.now c.requires
