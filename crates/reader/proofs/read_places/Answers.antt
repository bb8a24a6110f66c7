-- `reader::read_places` meets its contract. Assumes nothing.
use Rattle.reader.proofs.Leaving.{reads_places}
use Rattle.reader.proofs.read_places.Goals as goal

pub returns : goal.returns
returns c = reads_places c.read_in.ensures
