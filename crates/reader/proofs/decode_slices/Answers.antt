-- `reader::decode_slices` meets its contract. Assumes nothing.
use mathlib.Core.Path.{ap, ◌∙◌}
use lib.IntN.{pos}
use lib.ListN.{length, length-replicate}
use Rattle.reader.proofs.Decoded.{lent, sliced}
use Rattle.reader.proofs.decode_slices.Goals as goal

pub stream-requires : goal.stream-requires
stream-requires c =
    lent c.requires.0 c.setting_of-c.ensures (ap length c.clear.ensures ∙ length-replicate (length c.args.cells.now) (pos 0) ∙ c.requires.1)

pub returns : goal.returns
returns c =
    sliced c.args.stream.now c.args.h c.args.damaged c.setting_of-c.ensures.is c.clear.ensures c.requires.1 c.stream.ensures
