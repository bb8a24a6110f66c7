-- `output::linear_output` meets its contract. The invariant: the first x values are given out, the others are as they were. Assumes nothing.
use mathlib.Core.Path.{◌≡◌, sym, ap₂, ◌∙◌}
use Prim.Native.Nat.{◌^◌, ◌≤◌}
use native.Mathlib.Omega.{arith}
use lib.IntN.{ℤ, pos, nat_abs}
use mir.Syntax.{w64}
use mir.Val.{to_z, of_z}
use Rattle.whole.specs.Cells.{cell}
use Rattle.whole.proofs.Machine.{read_small}
use Rattle.whole.proofs.Passes.{mapped_none, mapped_all, map_at_from}
use Rattle.output.specs.Linear.{output_of}
use Rattle.output.specs.Constants.{output_by_scale}
use Rattle.output.proofs.Laws.{output_by_scale_lem, pass_goes}
use Rattle.output.proofs.linear_output.Goals.{In-loop-x}
use Rattle.output.proofs.linear_output.Invariants.{given}
use Rattle.output.proofs.linear_output.Goals as goal

-- in a turn the value is small, so it is what the machine reads
module _ (c : In-loop-x) where
  abbrev v : ℤ
  v = cell c.args.work.now c.loop-x.x

  v_read : to_z w64 (of_z w64 v) ≡ v
  v_read =
      let small : nat_abs v ≤ 2 ^ 60 = c.requires.0.small.most _ (omega (arith, c.requires.0.room)) in
      read_small v (omega (arith, small))

pub loop-x-init : goal.loop-x-init
loop-x-init c = sym (mapped_none _ _)

pub loop-x-preserved : goal.loop-x-preserved
loop-x-preserved c =
    let a = c.args in
    pass_goes (given a.work.now a.kind a.bw a.b) c.loop-x.x a.out.now 0 c.loop-x.invariant
    (c.output_of.ensures
    ∙ ap₂ (output_by_scale a.kind) c.scale_of-s.ensures (v_read (goal.at.loop-x-preserved c).In-loop-x)
    ∙ output_by_scale_lem a.kind a.bw a.b (v (goal.at.loop-x-preserved c).In-loop-x)) c.loop-x-test.true

pub returns : goal.returns
returns c =
    c.loop-x.invariant ∙ mapped_all _ _ _ (omega arith)
    ∙ map_at_from (output_of c.args.kind c.args.bw c.args.b) (pos 0) c.args.work.now c.args.out.now c.requires.0.room
