-- `segments::components::sx_at`: the first four bits of the byte. Assumes nothing.
use mathlib.Core.Path.{refl}
use Rattle.bits.proofs.Laws.{is_first}
use Rattle.segments.proofs.components.sx_at.Goals as goal

pub returns : goal.returns
returns c =
    is_first 4 c.u8_at.ensures refl
