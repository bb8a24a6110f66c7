-- `packets::bound_flag` meets its contract. Assumes nothing.
use borrow.Author.Tests.{lt-leb, le-leb}
use Rattle.packets.specs.Steps.{first_bound}
use Rattle.packets.proofs.bound_flag.Goals as goal

pub returns-then-c : goal.returns-then-c
returns-then-c c = rw c.if-c.true

pub returns-then-slot-lt7 : goal.returns-then-slot-lt7
returns-then-slot-lt7 c = rw (c.if-c.false, lt-leb first_bound _ c.if-slot-lt7.true)

pub returns : goal.returns
returns c = rw (c.if-c.false, le-leb first_bound _ c.if-slot-lt7.false)
