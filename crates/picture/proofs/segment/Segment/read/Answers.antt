-- `picture::segment::Segment::read`: each part is what its reader answers. Assumes nothing.
use Rattle.picture.proofs.segment.Segment.read.Goals as goal

pub returns : goal.returns
returns c =
    let a = c.args in
    record {
      value =
          λ i.
          record {
            at = a.at;
            left = c.left.ensures i;
            marker = c.u16_at.ensures.value i;
            rest = c.left-2.ensures i;
            size = c.u16_at-2.ensures.value i;
          };
      below = c.u16_at-2.ensures.below;
    }
