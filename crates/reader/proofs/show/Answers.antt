-- `reader::show` meets its contract. Assumes nothing.
use native.Mathlib.Omega.{arith}
use Rattle.whole.proofs.TwoKinds.{kinds_differ}
use Rattle.reader.proofs.Openings.{fq_few, depths, colours}
use Rattle.reader.proofs.Shown.{values_ready, shows}
use Rattle.reader.proofs.show.Goals as goal

pub values-requires : goal.values-requires
values-requires c =
    rw c.shape_of-s.ensures (c.requires.ready, λ n. absurd (kinds_differ n), colours c.requires.ranges)

pub outputs-requires : goal.outputs-requires
outputs-requires c =
    let pre = c.requires in
    rw c.shape_of-s.ensures (values_ready pre.ready (colours pre.ranges) (rw c.shape_of-s.ensures at c.values.ensures), λ n. absurd (kinds_differ n), depths pre.ranges, pre.room)

pub distances-d-requires : goal.distances-d-requires
distances-d-requires c =
    let pre = c.requires in
    rw c.shape_of-s.ensures (record { built = pre.ready.built; fq = omega (arith, fq_few pre.ranges); precisions = depths pre.ranges; colour = (colours pre.ranges).three; few = pre.few })

pub returns : goal.returns
returns c =
    let e = c.shape_of-s.ensures in
    shows c.requires.ready.built (rw e at c.values.ensures) (rw e at c.outputs.ensures) (rw e at c.distances-d.ensures) c.shown.ensures
