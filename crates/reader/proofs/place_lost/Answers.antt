-- `reader::place_lost` meets its contract. Assumes nothing.
use mathlib.Core.Path.{refl, ap, ◌∙◌}
use mathlib.Core.Bool.{cond}
use mathlib.Core.List.{[]}
use lib.ListN.{length}
use Rattle.shapes.specs.Shapes.{shape_of}
use Rattle.planes.proofs.Planes.{planes_length}
use Rattle.reader.specs.Modes.{lost_marks}
use Rattle.reader.specs.Places.{place_distance}
use Rattle.reader.proofs.Openings.{depths}
use Rattle.reader.proofs.Leaving.{marks_length}
use Rattle.reader.proofs.Placing.{placeable, placed_whole, placed_lost}
use Rattle.reader.proofs.place_lost.Goals as goal

pub place-requires : goal.place-requires
place-requires c = placeable c.requires

pub lost_distances-requires : goal.lost_distances-requires
lost_distances-requires c =
    let a = c.args in
    let pre = c.requires in
    rw c.shape_of-s.ensures (
      pre.opened.shape,
      λ j l. (depths pre.opened.accepted.ranges j l).most,
      ap length (pre.marks refl ∙ (λ j. cond (c.if-damaged.true j) (lost_marks a.stream.now a.h) [])) ∙ marks_length a.stream.now a.h,
      ap length c.place.ensures.distances ∙ planes_length (shape_of a.h) (place_distance a.stream.now a.h) a.h.picture.nc,
    )

pub returns-then-damaged : goal.returns-then-damaged
returns-then-damaged c =
    let a = c.args in
    let pre = c.requires in
    rw c.if-damaged.true
    (record {
      distances =
          placed_lost a.stream.now a.h pre.opened.shape (pre.marks refl ∙ (λ j. cond (c.if-damaged.true j) (lost_marks a.stream.now a.h) [])) c.place.ensures.distances
          (rw c.shape_of-s.ensures at c.lost_distances.ensures);
      same = c.place.ensures.same;
    })

pub returns-else-damaged : goal.returns-else-damaged
returns-else-damaged c =
    let a = c.args in
    rw c.if-damaged.false (record { distances = placed_whole a.stream.now a.h c.place.ensures.distances; same = c.place.ensures.same })
