-- `planes::marks` meets its contract. The invariant: the marks of the first i components are written. Assumes nothing.
use Rattle.planes.proofs.Planes.{written_none, written_more}
use Rattle.planes.proofs.marks.Goals as goal

pub loop-i-init : goal.loop-i-init
loop-i-init c = written_none c.requires.1

pub loop-i-preserved : goal.loop-i-preserved
loop-i-preserved c =
    written_more c.loop-i.invariant c.loop-i-test.true c.component_marks.ensures
