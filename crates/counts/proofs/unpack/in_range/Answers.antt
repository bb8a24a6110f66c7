-- `counts::unpack::in_range` meets its contract. Assumes nothing.
use borrow.Author.Tests.{le-leb, lt-leb}
use Rattle.counts.specs.Groups.{counted}
use Rattle.counts.proofs.unpack.in_range.Goals as goal

pub returns-then-m-le31 : goal.returns-then-m-le31
unfolding counted
returns-then-m-le31 c = rw (le-leb _ _ c.if-m-le31.true)

pub returns-else-m-le31 : goal.returns-else-m-le31
unfolding counted
returns-else-m-le31 c = rw (lt-leb _ _ c.if-m-le31.false)
