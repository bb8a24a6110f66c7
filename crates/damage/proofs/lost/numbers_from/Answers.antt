-- `lost::numbers_from` meets its contract. The invariant: the first k coefficients have become numbers. Assumes nothing.
use Rattle.std.proofs.Common.{rules}
use Rattle.damage.proofs.Numbering.{numbered_more}
use Rattle.damage.proofs.lost.numbers_from.Goals as goal

pub loop-k-preserved : goal.loop-k-preserved
loop-k-preserved c = numbered_more c.loop-k-test.true c.requires c.loop-k.invariant (search rules)
