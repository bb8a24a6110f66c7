-- `values::words::read_group` meets its contract. Assumes nothing.
use Rattle.values.proofs.words.read_group.Goals as goal

pub returns-then-fs : goal.returns-then-fs
returns-then-fs c = rw c.if-fs.true c.signs_apart.ensures

-- with Fs = 0 no sign subpacket is read
pub returns-else-fs : goal.returns-else-fs
returns-else-fs c = let e = c.signs_before.ensures in rw c.if-fs.false (record { sizes = e.sizes; signs = e.signs; taken = e.taken; used = e.used })
