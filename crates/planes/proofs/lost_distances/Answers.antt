-- `planes::lost_distances` meets its contract. The invariant: the first i components are what their marks make of them, the others are as they were. Assumes nothing.
use Rattle.planes.proofs.LostPlanes.{lost_none, lost_more}
use Rattle.planes.proofs.lost_distances.Goals as goal

pub loop-i-init : goal.loop-i-init
loop-i-init c = lost_none c.requires.3

pub loop-i-preserved : goal.loop-i-preserved
loop-i-preserved c =
    lost_more c.loop-i.invariant c.loop-i-test.true c.component_lost.ensures
