-- A.2 and A.4: which segments stand between the picture header and the first slice header of an accepted stream, said of its bytes alone. Segments count
-- from 0. `accepted_header` shows that it holds.
use Rattle.std.specs.Prelude.{ℕ, zero, suc, ◌+◌, ◌<◌, true, List, ◌⊎◌, ◌↔◌, ◌≡◌}
use Rattle.bits.specs.Fields.{field_at}
use Rattle.picture.specs.Markers.{CDT, WGT, COM, CRG, SLH, CAPTION}
use Rattle.picture.specs.Opening.{picture_place, picture_bytes}
use Rattle.picture.specs.Picture.{picture_at}
use Rattle.segments.specs.Segments.{type_at}
use Rattle.header.specs.Header.{four, component_of, weights_of}
use Rattle.header.specs.declared.header.Header.{Header}

-- A.3: the place of segment k. The first stands behind the picture header; a segment has its marker's two bytes and as many as its length says
unfoldable pub segment_place : List ℕ → ℕ → ℕ
segment_place s zero = picture_place s + picture_bytes
segment_place s (suc k) = segment_place s k + 2 + field_at s (segment_place s k + 2) 16

-- segment k has the marker m
abbrev pub Marked : List ℕ → ℕ → ℕ → Type 0
Marked s m k = field_at s (segment_place s k) 16 ≡ m

-- segment k is a bench caption: an extension of that type
abbrev pub IsCaption : List ℕ → ℕ → Type 0
IsCaption s k = Marked s COM k × (type_at s (segment_place s k) ≡ CAPTION)

-- of the first n segments, k is one of which P holds, and there is no other
pub record Only (P : ℕ → Type 0) (n k : ℕ) : Type 0 where
  pub before : k < n
  pub is : P k
  pub only : (j : ℕ) → j < n → P j → j ≡ k

-- no two of them are such
abbrev pub AtMostOne : (ℕ → Type 0) → ℕ → Type 0
AtMostOne P n = (j k : ℕ) → j < n → k < n → P j → P k → j ≡ k

-- a segment of which P holds stands before a place, whatever else stands there
pub record StandsBefore (s : List ℕ) (P : ℕ → Type 0) (place : ℕ) : Type 0 where
  pub segment : ℕ
  pub before : segment_place s segment < place
  pub is : P segment

-- of the header h of an accepted stream
pub record Occurs (s : List ℕ) (h : Header) : Type 0 where
  pub picture : h.picture ≡ picture_at s (picture_place s)
  -- so many segments stand before the first slice header
  pub count : ℕ
  pub slice : h.slice ≡ segment_place s count
  pub marker : Marked s SLH count
  -- Table A.2: NLT, CWD, CTS, TPC and WGR could stand there too, and are not built
  pub kinds : (k : ℕ) → k < count → Marked s CDT k ⊎ Marked s WGT k ⊎ Marked s COM k ⊎ Marked s CRG k
  -- A.4.5: 'There shall be exactly one component table in each JPEG XS codestream. It shall precede the first slice header.'
  pub cdt : ℕ
  pub table : Only (Marked s CDT) count cdt
  -- A.4.12: 'There shall be exactly one weights table in each JPEG XS codestream.' Document 01: before the component table it is not built
  pub wgt : ℕ
  pub weights : Only (Marked s WGT) count wgt
  pub behind : cdt < wgt
  -- A.4.9: 'Zero or one component registration markers shall be present in a codestream.'
  pub registration : AtMostOne (Marked s CRG) count
  -- Tables A.15 and A.25: what the header says stands there
  pub depth : h.depth ≡ four (λ c. (component_of s h.picture (segment_place s cdt) c).depth)
  pub sx : h.sx ≡ four (λ c. (component_of s h.picture (segment_place s cdt) c).sx)
  pub sy : h.sy ≡ four (λ c. (component_of s h.picture (segment_place s cdt) c).sy)
  pub gains : h.gains ≡ (weights_of s h.picture (segment_place s cdt) (segment_place s wgt)).gains
  pub priorities : h.priorities ≡ (weights_of s h.picture (segment_place s cdt) (segment_place s wgt)).priorities
  -- document 02, C-13: 'the record's yes still tells that one is there'
  pub caption : (h.caption ≡ true) ↔ StandsBefore s (IsCaption s) h.slice
