-- `values::short_group` meets its contract: what is read and put is the group's. Assumes nothing.
use Prim.Native.Nat.{◌-◌}
use native.Mathlib.Omega.{arith}
use Rattle.values.specs.Lanes.{IsFound}
use Rattle.values.proofs.Lanes.{found_sizes, found_few, found_group}
use Rattle.values.proofs.short_group.Goals.{After-read_group-found}
use Rattle.values.proofs.short_group.Goals as goal

-- what was read, of M - T planes
read : (c : After-read_group-found) → let a = c.args in
    IsFound a.dat.now a.sgn.now a.how.fs (a.group.m - a.group.t) a.next.at a.next.sign c.read_group-found.result
read c = rw c.saturating_sub-n.ensures at c.read_group-found.ensures

pub put-requires : goal.put-requires
put-requires c =
    let pre = c.requires in
    (pre.1.inside.each 3 (omega (arith, pre.2.whole)), found_sizes pre.1 pre.2 (read (goal.at.put-requires c).After-read_group-found), pre.1.fq)

pub overflow_add-result-2 : goal.overflow_add-result-2
overflow_add-result-2 c =
    let pre = c.requires in
    omega (arith, pre.1.sign, found_few pre.1 pre.2 (read (goal.at.overflow_add-result-2 c).After-read_group-found))

pub returns : goal.returns
returns c =
    let pre = c.requires in
    found_group pre.1 pre.2 (read (goal.at.returns c).After-read_group-found) c.args.cells.now c.put.ensures
