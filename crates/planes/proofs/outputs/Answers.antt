-- `planes::outputs` meets its contract. The invariant: the output of the first i components is written. Assumes nothing.
use mathlib.Core.Path.{ap, ◌∙◌}
use Prim.Native.Nat.{ℕ}
use native.Mathlib.Omega.{arith}
use lib.ListN.{get_or}
use Rattle.planes.specs.Values.{Values, planes}
use Rattle.planes.specs.Places.{values_in}
use Rattle.planes.proofs.Planes.{written_none, written_more, written_all}
use Rattle.planes.proofs.EitherKind.{outputs_are}
use Rattle.planes.proofs.outputs.Goals as goal

pub loop-i-init : goal.loop-i-init
loop-i-init c = written_none c.requires.3

pub loop-i-preserved : goal.loop-i-preserved
loop-i-preserved c =
    written_more c.loop-i.invariant c.loop-i-test.true c.component_output.ensures

pub returns : goal.returns
returns c =
    let a = c.args in
    written_all c.loop-i.invariant (omega arith)
    ∙ ap (λ (f : Values ℕ). planes a.s f a.s.nc) (outputs_are a.kind a.bw (λ (i : ℕ). get_or a.depth i 0) (values_in a.s a.work.now))
