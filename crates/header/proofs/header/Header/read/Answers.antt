-- `header::header::Header::read`: each part is what its reader answers. Assumes nothing.
use mathlib.Core.List.{[], ◌∷◌}
use Rattle.header.proofs.header.Header.read.Goals as goal

pub returns : goal.returns
returns c =
    let a = c.args in
    let c0 = c.component-c0.ensures in
    let c1 = c.component-c1.ensures in
    let c2 = c.component-c2.ensures in
    let c3 = c.component-c3.ensures in
    let w = c.read-w.ensures in
    λ i.
    record {
      picture = a.h;
      depth = (c0 i).depth ∷ (c1 i).depth ∷ (c2 i).depth ∷ (c3 i).depth ∷ [];
      sx = (c0 i).sx ∷ (c1 i).sx ∷ (c2 i).sx ∷ (c3 i).sx ∷ [];
      sy = (c0 i).sy ∷ (c1 i).sy ∷ (c2 i).sy ∷ (c3 i).sy ∷ [];
      gains = (w i).gains;
      priorities = (w i).priorities;
      caption = a.x.caption;
      slice = a.slice;
    }
