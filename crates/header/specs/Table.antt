-- The checks of a header as one table, in the order in which a reading comes to them: 'Checking runs from the front.' A broken check decides whatever
-- stands behind it.
use Rattle.std.specs.Prelude.{ℕ, zero, suc, ◌+◌, cond, List, [], ◌++◌, length}
use Rattle.rows.specs.declared.Check.{Check}
use Rattle.picture.specs.Opening.{picture_place, picture_bytes, opening_checks}
use Rattle.picture.specs.Picture.{picture_at}
use Rattle.picture.specs.Segment.{segment_at}
use Rattle.picture.specs.declared.picture.Picture.{Picture}
use Rattle.segments.specs.Segments.{segment_checks}
use Rattle.header.specs.Walk.{step}
use Rattle.header.specs.Turns.{begun}
use Rattle.header.specs.declared.walk.Walk.{Walk}

-- the segment at hand, and the segments behind it. A walk that has ended, at the first slice marker or a refused segment, comes to no other. `fuel`
-- bounds the turns as it does the walk's, and no table comes so far
unfoldable pub segments_from : List ℕ → Picture → ℕ → Walk → List Check
segments_from s h zero w = []
segments_from s h (suc fuel) w = cond w.done [] (segment_checks s h w.seen (segment_at s w.at) ++ segments_from s h fuel (step s h w))

-- start of codestream, capabilities and picture header; then the segments, from behind the picture header to the first slice marker
unfoldable pub header_checks : List ℕ → List Check
header_checks s = opening_checks s ++ segments_from s (picture_at s (picture_place s)) (length s + 2) (begun (picture_place s + picture_bytes))
