-- `reader::read` meets its contract. Assumes nothing.
use Rattle.reader.proofs.Leaving.{reads_plain}
use Rattle.reader.proofs.read.Goals as goal

pub returns : goal.returns
returns c = reads_plain c.read_in.ensures
