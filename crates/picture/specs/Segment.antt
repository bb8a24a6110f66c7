-- A.3: a marker, then a length of two bytes 'which consists of the length of the payload data in bytes, and the size of the length field itself'.
use Rattle.std.specs.Prelude.{ℕ, ◌+◌, ◌-◌, ◌<◌, ◌^◌, List, [], ◌∷◌, ◌≡◌, length}
use Rattle.bits.specs.Fields.{field_at}
use Rattle.rows.specs.Rows.{check, ample}
use Rattle.rows.specs.declared.Check.{Check}
use Rattle.rows.specs.declared.Field.{Field}
use Rattle.rows.specs.declared.Row.TheVariants.{Cut, Marker, Value}
use Rattle.picture.specs.declared.segment.Segment.{Segment}

-- the marker and the length at the place p, and the bytes left at each
abbrev pub segment_at : List ℕ → ℕ → Segment
segment_at s p = record { at = p; left = length s - p; marker = field_at s p 16; rest = length s - (p + 2); size = field_at s (p + 2) 16 }

-- what its reader answers: the length's bound follows, and stands beside it for the callers' sums
pub record IsSegment (s : List ℕ) (p : ℕ) (g : Segment) : Type 0 where
  pub value : g ≡ segment_at s p
  pub below : g.size < 2 ^ 16

-- the marker is there, and it is the one wanted
abbrev pub marker_checks : Segment → Field → ℕ → List Check
marker_checks g field code =
    check Cut g.at field g.left 2 ample
    ∷ check Marker g.at field g.marker code code
    ∷ []

-- document 01: 'A marker segment that runs past the stream is answered 1 at its length field', and so is one whose length field is cut. A.3: a length that 'does
-- not match the specified value or is not in the specified range' is ill-formed, and answered 3
abbrev pub length_checks : Segment → Field → ℕ → ℕ → List Check
length_checks g field least most =
    check Cut (g.at + 2) field g.rest 2 ample
    ∷ check Cut (g.at + 2) field g.rest g.size ample
    ∷ check Value (g.at + 2) field g.size least most
    ∷ []
