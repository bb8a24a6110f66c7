-- `reader::read_damaged` meets its contract. Assumes nothing.
use Rattle.reader.proofs.Leaving.{reads_damaged}
use Rattle.reader.proofs.read_damaged.Goals as goal

pub returns : goal.returns
returns c = reads_damaged c.read_in.ensures
