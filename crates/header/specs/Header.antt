-- The header of a codestream: what its segments say, or the first broken check.
use Rattle.std.specs.Prelude.{ℕ, ◌+◌, Bool, false, ◌&&◌, cond, List, [], ◌∷◌, ltb, replicate, Ok, Err}
use Rattle.whole.specs.Cells.{listed}
use Rattle.rows.specs.Rows.{first, Refused, Verdict}
use Rattle.picture.specs.Opening.{picture_place, picture_bytes, opening_checks}
use Rattle.picture.specs.Picture.{no_picture, picture_at}
use Rattle.picture.specs.declared.picture.Picture.{Picture}
use Rattle.segments.specs.Bands.{bands, existing}
use Rattle.segments.specs.Components.{component_at}
use Rattle.segments.specs.Segments.{none_seen}
use Rattle.segments.specs.Weights.{band_in, gain_at, priority_at}
use Rattle.segments.specs.declared.components.Component.{Component}
use Rattle.segments.specs.declared.seen.Seen.{Seen}
use Rattle.header.specs.Walk.{ended}
use Rattle.header.specs.Turns.{walk}
use Rattle.header.specs.declared.header.Header.{Header}
use Rattle.header.specs.declared.walk.Walk.{Walk}
use Rattle.header.specs.declared.weights.Weights.{Weights}

-- the numbers of an index, from 0 on
abbrev pub four : (ℕ → ℕ) → List ℕ
four f = f 0 ∷ f 1 ∷ f 2 ∷ f 3 ∷ []

-- component c by the component table: 0 where there is none
abbrev pub no_component : Component
no_component = record { depth = 0; sx = 0; sy = 0 }

abbrev pub component_of : List ℕ → Picture → ℕ → ℕ → Component
component_of s h cdt c = cond (ltb c h.nc) (component_at s cdt c) no_component

-- band b is one of the picture's, and exists
abbrev pub band_is : List ℕ → Picture → ℕ → ℕ → Bool
band_is s h cdt b = ltb b (bands h.nc h.nlx h.nly) && band_in s h cdt b

-- Table A.25: the existing bands have their gains and priorities in their order. The others have 0
abbrev pub gain_of : List ℕ → Picture → ℕ → ℕ → ℕ → ℕ
gain_of s h cdt wgt b = cond (band_is s h cdt b) (gain_at s wgt (existing (band_is s h cdt) b)) 0

abbrev pub priority_of : List ℕ → Picture → ℕ → ℕ → ℕ → ℕ
priority_of s h cdt wgt b = cond (band_is s h cdt b) (priority_at s wgt (existing (band_is s h cdt) b)) 0

-- NL is at most 40: four components of ten filter types
abbrev pub weights_of : List ℕ → Picture → ℕ → ℕ → Weights
weights_of s h cdt wgt = record { gains = listed 40 (gain_of s h cdt wgt); priorities = listed 40 (priority_of s h cdt wgt) }

-- by the picture header, the segments seen and the place of the first slice marker
abbrev pub header_in : List ℕ → Picture → Seen → ℕ → Header
header_in s h x slice =
    record {
      picture = h;
      depth = four (λ c. (component_of s h x.cdt c).depth);
      sx = four (λ c. (component_of s h x.cdt c).sx);
      sy = four (λ c. (component_of s h x.cdt c).sy);
      gains = (weights_of s h x.cdt x.wgt).gains;
      priorities = (weights_of s h x.cdt x.wgt).priorities;
      caption = x.caption;
      slice = slice;
    }

-- no header: all 0 and 'no'
abbrev pub no_header : Header
no_header =
    record {
      picture = no_picture;
      depth = replicate 4 0;
      sx = replicate 4 0;
      sy = replicate 4 0;
      gains = replicate 40 0;
      priorities = replicate 40 0;
      caption = false;
      slice = 0;
    }

-- the walk begins behind the picture header, where that is accepted
abbrev pub walk_by : Verdict → List ℕ → Picture → ℕ → Walk
walk_by (Ok _) s h p = walk s h (p + picture_bytes)
walk_by (Err c) s h p = ended (Refused c) 0 none_seen

-- a refused stream has no header
abbrev pub header_by : Verdict → List ℕ → Picture → Walk → Header
header_by (Ok _) s h w = header_in s h w.seen w.at
header_by (Err c) s h w = no_header

-- what a reading of the header comes to
pub record Reading : Type 0 where
  pub verdict : Verdict
  pub header : Header

abbrev pub reading_by : List ℕ → Picture → Walk → Reading
reading_by s h w = record { verdict = w.verdict; header = header_by w.verdict s h w }

-- the whole
abbrev pub walk_of : List ℕ → Walk
walk_of s = walk_by (first (opening_checks s)) s (picture_at s (picture_place s)) (picture_place s)

unfoldable pub reading_of : List ℕ → Reading
reading_of s = reading_by s (picture_at s (picture_place s)) (walk_of s)
