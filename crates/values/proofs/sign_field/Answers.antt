-- `values::sign_field` meets its contract: the test picks the stretch. Assumes nothing.
use Rattle.values.proofs.sign_field.Goals as goal

pub returns-then-fs : goal.returns-then-fs
returns-then-fs c = rw c.if-fs.true c.field.ensures.value

pub returns-else-fs : goal.returns-else-fs
returns-else-fs c = rw c.if-fs.false c.nibble.ensures.value
