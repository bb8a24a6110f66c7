-- A.4.1, A.4.3, A.4.4: SOC, CAP and PIH are the first three segments, in this order. Document 01: capability bits are 'not judged'; they are skipped.
use Rattle.std.specs.Prelude.{ℕ, ◌+◌, ◌≤◌, ◌<◌, ◌^◌, List, ◌++◌, ◌≡◌, length}
use Rattle.bits.specs.Fields.{field_at}
use Rattle.rows.specs.Rows.{first}
use Rattle.rows.specs.declared.Check.{Check}
use Rattle.rows.specs.declared.Field.TheVariants.{Soc, Cap, Lcap, Pih, Lpih}
use Rattle.picture.specs.Markers.{SOC, CAP, PIH}
use Rattle.picture.specs.Picture.{picture_at, field_checks, Built}
use Rattle.picture.specs.Segment.{segment_at, marker_checks, length_checks}
use Rattle.picture.specs.declared.opening.Opening.{Opening}
use Rattle.picture.specs.declared.picture.Picture.{Picture}

-- Tables A.3 and A.6: SOC is a marker alone, so CAP stands at 2. Lcap is 'Variable', and counts its own two bytes
abbrev pub start_checks : List ℕ → List Check
start_checks s =
    marker_checks (segment_at s 0) Soc SOC
    ++ (marker_checks (segment_at s 2) Cap CAP ++ length_checks (segment_at s 2) Lcap 2 0xffff)

-- Table A.6: Lcap stands at 4, and the picture header behind the capabilities
abbrev pub picture_place : List ℕ → ℕ
picture_place s = 4 + field_at s 4 16

-- Table A.7: Lpih is 26, and the picture header has the two bytes of its marker besides
abbrev pub picture_length : ℕ
picture_length = 26

abbrev pub picture_bytes : ℕ
picture_bytes = 2 + picture_length

abbrev pub picture_checks : List ℕ → ℕ → List Check
picture_checks s p =
    marker_checks (segment_at s p) Pih PIH
    ++ (length_checks (segment_at s p) Lpih picture_length picture_length ++ field_checks (length s) p (picture_at s p))

abbrev pub opening_checks : List ℕ → List Check
opening_checks s = start_checks s ++ picture_checks s (picture_place s)

-- the verdict of these, the place of the picture header, and its fields
abbrev pub opening_of : List ℕ → Opening
opening_of s = record { verdict = first (opening_checks s); place = picture_place s; picture = picture_at s (picture_place s) }

-- what their reader answers: the place's bound follows, and stands beside it for the callers' sums
pub record IsOpening (s : List ℕ) (o : Opening) : Type 0 where
  pub value : o ≡ opening_of s
  pub below : o.place < 2 ^ 17

-- what holds of an accepted opening
pub record Opened (s : List ℕ) (h : Picture) (p : ℕ) : Type 0 where
  pub built : Built h
  pub whole : h.lcod ≡ length s
  pub short : length s < 2 ^ 32
  pub behind : p + picture_bytes ≤ length s
