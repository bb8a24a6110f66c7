-- `values::clear_group` meets its contract. Invariant: k places are written. Assumes nothing.
use mathlib.Core.Path.{◌≡◌, refl}
use Prim.Native.Nat.{◌+◌, ◌*◌, ◌<◌}
use native.Mathlib.Omega.{arith}
use lib.ListN.{length}
use Rattle.values.proofs.Places.{starts, places}
use Rattle.values.proofs.clear_group.Goals.{In-loop-k}
use Rattle.values.proofs.clear_group.Goals as goal

-- the cell of the turn
inside : (c : In-loop-k) → let a = c.args in a.first + c.loop-k.k * a.stride < length c.loop-k.cells
inside c = omega (arith, c.requires.each c.loop-k.k c.loop-k-test.true, c.loop-k.invariant.long)

pub loop-k-init : goal.loop-k-init
loop-k-init c = starts

pub slice_set_of-cells : goal.slice_set_of-cells
slice_set_of-cells c = inside (goal.at.slice_set_of-cells c).In-loop-k

pub loop-k-preserved : goal.loop-k-preserved
loop-k-preserved c = places c.loop-k.invariant refl

pub returns : goal.returns
returns c =
    let e : c.loop-k.k ≡ c.args.count = omega arith in
    rw e at c.loop-k.invariant.same
