-- `show::put_gap`: none before the first cell, and none between marks. Assumes nothing.
use Rattle.show.specs.Planes.{kind_of}
use Rattle.show.proofs.Puts.{put_none, first_gap}
use Rattle.show.proofs.put_gap.Goals as goal

pub returns-then-x-eq0 : goal.returns-then-x-eq0
returns-then-x-eq0 c = first_gap (kind_of c.args.plane) c.args.x _ _ c.if-x-eq0.true

pub returns-in-Marks : goal.returns-in-Marks
returns-in-Marks c = rw c.in-Marks.is (put_none _ _)
