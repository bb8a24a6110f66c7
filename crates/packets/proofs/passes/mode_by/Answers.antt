-- `packets::passes::mode_by` meets its contract. Assumes nothing.
use borrow.Author.Tests.{eq-eqb, ne_eqb}
use Rattle.packets.proofs.passes.mode_by.Goals as goal

pub returns-then-d-eq0 : goal.returns-then-d-eq0
returns-then-d-eq0 c = rw (c.if-raw.false, eq-eqb _ 0 c.if-d-eq0.true)

pub returns-else-d-eq0 : goal.returns-else-d-eq0
returns-else-d-eq0 c = rw (c.if-raw.false, ne_eqb _ 0 c.if-d-eq0.false)
