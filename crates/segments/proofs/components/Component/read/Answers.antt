-- `segments::components::Component::read`: each part is what its reader answers. Assumes nothing.
use Rattle.segments.proofs.components.Component.read.Goals as goal

pub returns : goal.returns
returns c =
    record {
      value = λ i. record { depth = c.u8_at.ensures.value i; sx = c.sx_at.ensures.value i; sy = c.sy_at.ensures.value i };
      sx = c.sx_at.ensures.below;
      sy = c.sy_at.ensures.below;
    }
