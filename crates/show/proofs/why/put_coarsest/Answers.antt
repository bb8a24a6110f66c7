-- `show::why::put_coarsest`: one by one. Assumes nothing.
use Rattle.show.specs.Why.{coarsest_lines}
use Rattle.show.proofs.Puts.{put_none}
use Rattle.show.proofs.Reasons.{next_line}
use Rattle.show.proofs.why.put_coarsest.Goals as goal

pub loop-i-init : goal.loop-i-init
unfolding coarsest_lines
loop-i-init c = put_none _ _

pub loop-i-preserved : goal.loop-i-preserved
loop-i-preserved c = next_line c.args.w c.loop-i.i c.loop-i.invariant c.put_coarsest_of-at.ensures
