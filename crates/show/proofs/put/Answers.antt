-- `show::put`: byte by byte. Assumes nothing.
use Rattle.std.proofs.Common.{arith}
use Rattle.show.proofs.Puts.{put_none, put_next}
use Rattle.show.proofs.put.Goals as goal

pub loop-b-init : goal.loop-b-init
loop-b-init c = put_none _ _

pub loop-b-preserved : goal.loop-b-preserved
loop-b-preserved c = put_next c.args.bytes.now c.loop-b.b-index (omega arith) c.loop-b.invariant c.put_byte-at.ensures
