-- `reader::records::shown` meets its contract. Assumes nothing.
use mathlib.Core.List.{[], ◌∷◌}
use Rattle.whole.specs.Cells.{listed}
use Rattle.reader.proofs.records.shown.Goals as goal

pub returns : goal.returns
unfolding listed
returns c =
    let a = c.args in
    let s3 = c.size_of-s3.ensures in
    let s2 = c.size_of-s2.ensures in
    let s1 = c.size_of-s1.ensures in
    let s0 = c.size_of-s0.ensures in
    λ i. record {
      answer = 0;
      place = a.h.picture.lcod;
      components = a.h.picture.nc;
      caption = a.h.caption;
      width = (s0 i).w ∷ (s1 i).w ∷ (s2 i).w ∷ (s3 i).w ∷ [];
      height = (s0 i).h ∷ (s1 i).h ∷ (s2 i).h ∷ (s3 i).h ∷ [];
      precision = (s0 i).b ∷ (s1 i).b ∷ (s2 i).b ∷ (s3 i).b ∷ [];
      distance = a.distance;
      bytes = a.bytes;
    }
