-- `reader::place_in` meets its contract. Assumes nothing.
use Rattle.reader.specs.Settings.{N}
use Rattle.reader.proofs.Placing.{placed_not}
use Rattle.reader.proofs.place_in.Goals as goal

pub place_lost-requires : goal.place_lost-requires
place_lost-requires c = rw c.if-placed.true at c.requires

pub returns-then-placed : goal.returns-then-placed
returns-then-placed c = rw c.if-placed.true c.place_lost.ensures

pub returns-else-placed : goal.returns-else-placed
returns-else-placed c =
    placed_not (N c.args.h) c.args.distances.now c.if-placed.false c.requires.room
