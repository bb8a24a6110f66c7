-- `values::words::put` meets its contract: lane after lane. Assumes nothing.
use mathlib.Core.Path.{◌≡◌}
use Prim.Native.Nat.{◌-◌, ◌/◌, ◌%◌, ◌^◌}
use native.Mathlib.Omega.{arith}
use Rattle.whole.proofs.Machine.{back64}
use Rattle.values.specs.Lanes.{lane, lane_value}
use Rattle.values.proofs.Lanes.{placed_four}
use Rattle.values.proofs.words.put.Goals.{Start}
use Rattle.values.proofs.words.put.Goals as goal

first : (c : Start) → lane c.args.found.sizes 0 ≡ c.args.found.sizes % 65536
first c = omega arith

pub returns : goal.returns
unfolding lane_value
returns c =
    let a = c.args in
    let last : a.found.signs / 2 ^ (3 - 3) % 2 ≡ a.found.signs % 2 = omega arith in
    placed_four a.group.first a.group.stride a.cells.now _ _ _ _ (lane_value a.uniform a.group.m a.group.t a.fq a.found.sizes a.found.signs)
    (rw (
      back64 c.value_of-a.result c.value_of-a.type_inv,
      back64 c.value_of-b.result c.value_of-b.type_inv,
      back64 c.value_of-c.result c.value_of-c.type_inv,
      back64 c.value_of-d.result c.value_of-d.type_inv,
    ) at c.four_into.ensures)
    (rw (first (goal.at.returns c).Start) c.value_of-a.ensures) c.value_of-b.ensures c.value_of-c.ensures (rw last c.value_of-d.ensures)
