-- `segments::components::sy_at`: the last four bits of the byte. Assumes nothing.
use mathlib.Core.Path.{refl}
use Rattle.bits.proofs.Laws.{is_last}
use Rattle.segments.proofs.components.sy_at.Goals as goal

pub returns : goal.returns
returns c =
    is_last 4 c.u8_at.ensures refl refl
