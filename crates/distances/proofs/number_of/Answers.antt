-- `distances::number_of` meets its contract: the band's index is inside the array. Assumes nothing.
use Rattle.distances.proofs.Bounds.{number_small}
use Rattle.distances.proofs.number_of.Goals as goal

pub returns : goal.returns
returns c = (c.band_number.ensures, rw c.band_number.ensures (number_small c.requires.0 _))
