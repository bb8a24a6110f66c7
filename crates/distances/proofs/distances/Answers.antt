-- `distances::distances` meets its contract: the loop fills the array with the distances. Assumes nothing.
use mathlib.Core.Path.{refl, ◌∙◌}
use native.Mathlib.Omega.{arith}
use Rattle.whole.proofs.Lists.{filled_none, filled_more, filled_all}
use Rattle.distances.proofs.Rules.{numbers_below, entry_below, distances_made}
use Rattle.distances.proofs.distances.Goals as goal

pub coloured_numbers-e-requires : goal.coloured_numbers-e-requires
coloured_numbers-e-requires c = numbers_below c.requires c.component_numbers.ensures

pub loop-i-init : goal.loop-i-init
loop-i-init c = filled_none refl

pub distance_at-requires : goal.distance_at-requires
distance_at-requires c =
    let p = c.requires in
    (entry_below p c.component_numbers.ensures c.coloured_numbers-e.ensures _ c.loop-i-test.true, p.precisions _)

pub loop-i-preserved : goal.loop-i-preserved
loop-i-preserved c = filled_more c.loop-i.invariant c.loop-i-test.true c.distance_at.ensures

pub returns : goal.returns
returns c =
    filled_all c.loop-i.invariant (omega arith) ∙ distances_made c.requires c.component_numbers.ensures c.coloured_numbers-e.ensures
