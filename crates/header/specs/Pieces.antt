-- Document 02, C-16: the pieces of a header: 'markers and their segments', of which each has its marker's two bytes and as many as its length says (A.3).
use Rattle.std.specs.Prelude.{ℕ, zero, suc, ◌+◌, cond, List, [], ◌∷◌, length}
use Rattle.pieces.specs.Pieces.{Piece, Markers}
use Rattle.bits.specs.Fields.{field_at}
use Rattle.picture.specs.Opening.{picture_place, picture_bytes}
use Rattle.picture.specs.Picture.{picture_at}
use Rattle.picture.specs.Segment.{segment_at}
use Rattle.picture.specs.declared.picture.Picture.{Picture}
use Rattle.header.specs.Walk.{step}
use Rattle.header.specs.Turns.{begun}
use Rattle.header.specs.declared.walk.Walk.{Walk}

-- the segment at hand, and the segments behind it, of whatever kind. The step that ends the walk comes to the first slice header, which is its slice's. `fuel`
-- bounds the turns as it does the walk's, and no header comes so far
unfoldable pub segment_pieces : List ℕ → Picture → ℕ → Walk → List Piece
segment_pieces s h zero w = []
segment_pieces s h (suc fuel) w = cond (step s h w).done [] ((Markers, 2 + (segment_at s w.at).size) ∷ segment_pieces s h fuel (step s h w))

-- Tables A.3 and A.6: SOC is a marker alone; the capabilities, whose length Lcap stands at 4; the picture header; then the other segments
unfoldable pub header_pieces : List ℕ → List Piece
header_pieces s =
    (Markers, 2)
    ∷ (Markers, 2 + field_at s 4 16)
    ∷ (Markers, picture_bytes)
    ∷ segment_pieces s (picture_at s (picture_place s)) (length s + 2) (begun (picture_place s + picture_bytes))
