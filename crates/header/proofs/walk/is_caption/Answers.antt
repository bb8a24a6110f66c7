-- `header::walk::is_caption`: the type is what its reader answers. Assumes nothing.
use mathlib.Core.Path.{refl}
use Rattle.header.proofs.walk.is_caption.Goals as goal

pub returns : goal.returns
returns c = rw c.u16_at.ensures.value refl
