-- `values::any_group` meets its contract: either way is the group's. Assumes nothing.
use Prim.Native.Nat.{◌+◌, ◌/◌}
use lib.ListN.{length}
use Rattle.values.proofs.Lanes.{short_is}
use Rattle.values.proofs.any_group.Goals as goal

pub short_group-requires : goal.short_group-requires
short_group-requires c =
    let a = c.args in
    let t = short_is a.group.count c.saturating_sub-n.result (a.next.at / 2 + 8) (length a.dat.now) c.if-short.true in
    (c.requires.0, c.requires.1, record { whole = t.0; few = rw c.saturating_sub-n.ensures at t.1; there = t.2 })
