-- `values::pairs::table` meets its contract, by the computed test. Assumes nothing.
use Rattle.values.specs.Lanes.{lanes, one_plane}
use Rattle.values.proofs.Lanes.{is_pairs}
use Rattle.values.proofs.pairs.table.Goals as goal

pub returns : goal.returns
unfolding lanes one_plane
returns c = is_pairs _ tt
