-- The answers of the functions that others build on, as the definitions have them, and beside them their ranges, for the sums of the callers.
use Rattle.std.specs.Prelude.{◌≡◌, cond, ◌&&◌, ℕ, ◌+◌, ◌*◌, ◌-◌, ◌/◌, ◌%◌, ◌^◌, ◌≤◌, ◌<◌, eqb, ltb}
use Rattle.whole.specs.Numbers.{ceil_div}
use Rattle.wavelet.specs.Transform.{low_size, high_size}
use Rattle.wavelet.specs.Bands.{τx, τy}
use Rattle.wavelet.specs.Places.{place}
use Rattle.layout.specs.declared.Shape.{Shape}
use Rattle.layout.specs.declared.bands.Filter.{Filter}
use Rattle.layout.specs.declared.bands.Component.{Component}
use Rattle.layout.specs.declared.bands.Band.{Band}
use Rattle.layout.specs.declared.precincts.Column.{Column}
use Rattle.layout.specs.declared.lines.Reach.{Reach}
use Rattle.layout.specs.declared.lines.Span.{Span}
use Rattle.layout.specs.declared.lines.Slot.{Slot}
use Rattle.layout.specs.Bands.{sx, sy, Wc, Hc, N'y, NL, band, band_exists, letters_of, across_of, down_of, kind, dx, depth, exists}
use Rattle.layout.specs.Precincts.{Cs, Wp, largest, by_letter}
use Rattle.layout.specs.Slots.{slot_type, slot_types, slot_line}

-- r is 2^k, a power that a depth can have
pub record Power (k r : ℕ) : Type 0 where
  pub is : r ≡ 2 ^ k
  pub some : 0 < r
  pub few : r ≤ 32

abbrev pub filter_of : ℕ → ℕ → ℕ → Filter
filter_of NLx NLy β =
    record { tx = τx (letters_of NLx NLy β); ty = τy (letters_of NLx NLy β); dx = across_of NLx NLy β; dy = down_of NLx NLy β }

pub record SmallFilter (f : Filter) : Type 0 where
  pub tx : f.tx ≤ 1
  pub ty : f.ty ≤ 1
  pub dx : f.dx ≤ 5
  pub dy : f.dy ≤ 2

abbrev pub component_of : Shape → ℕ → Component
component_of s i = record { sx = sx s i; sy = sy s i; w = Wc s i; h = Hc s i; ny = N'y s i }

pub record SmallComponent (c : Component) : Type 0 where
  pub across : 1 ≤ c.sx
  pub across_two : c.sx ≤ 2
  pub down : 1 ≤ c.sy
  pub down_two : c.sy ≤ 2
  pub wide : 1 ≤ c.w
  pub narrow : c.w ≤ 16384
  pub high : 1 ≤ c.h
  pub low : c.h ≤ 16384
  pub levels : c.ny ≤ 2

pub record IsComponent (s : Shape) (i : ℕ) (r : Component) : Type 0 where
  pub is : r ≡ component_of s i
  pub small : SmallComponent r

abbrev pub own_filter : Shape → ℕ → ℕ → Filter
own_filter s β i = record { tx = τx (kind s β); ty = τy (kind s β); dx = dx s β; dy = depth s β i }

abbrev pub band_of : Shape → ℕ → ℕ → Band
band_of s β i = record { exists = exists s β i; filter = own_filter s β i; part = component_of s i }

pub record SmallBand (b : Band) : Type 0 where
  pub filter : SmallFilter b.filter
  pub part : SmallComponent b.part
  pub own : b.filter.dy ≤ b.part.ny

pub record IsBand (s : Shape) (β i : ℕ) (r : Band) : Type 0 where
  pub is : r ≡ band_of s β i
  pub small : SmallBand r

pub record IsLargest (s : Shape) (r : ℕ) : Type 0 where
  pub is : r ≡ largest (sx s) s.nc
  pub some : 1 ≤ r
  pub few : r ≤ 2

pub record IsColumnWidth (s : Shape) (r : ℕ) : Type 0 where
  pub is : r ≡ Cs s
  pub some : 0 < r
  pub few : r < 2 ^ 26

abbrev pub column_of : Shape → ℕ → Column
column_of s column = record { x = column * Cs s; width = Wp s column }

pub record IsColumn (s : Shape) (column : ℕ) (r : Column) : Type 0 where
  pub is : r ≡ column_of s column
  pub small : r.x ≤ 16384
  pub narrow : r.width < 2 ^ 26

-- line l of a band in a row of precincts, the band's part in a column, and the cell of one of its coefficients in the component, from the band's own numbers
abbrev pub reach_of : Band → ℕ → ℕ → Reach
reach_of b row l =
    record {
      y = row * 2 ^ (b.part.ny - b.filter.dy) + l / b.part.sy;
      present =
          b.exists && eqb (l % b.part.sy) 0
          && ltb (row * 2 ^ (b.part.ny - b.filter.dy) + l / b.part.sy) (by_letter b.filter.ty (low_size b.part.h b.filter.dy) (high_size b.part.h b.filter.dy));
    }

abbrev pub span_of : Band → Column → Span
span_of b c =
    record {
      x = ceil_div c.x (b.part.sx * 2 ^ b.filter.dx);
      width = by_letter b.filter.tx (low_size (ceil_div c.width b.part.sx) b.filter.dx) (high_size (ceil_div c.width b.part.sx) b.filter.dx);
    }

abbrev pub inner_of : Band → ℕ → ℕ → ℕ
inner_of b x y = place b.filter.ty b.filter.dy y * b.part.w + place b.filter.tx b.filter.dx x

pub record IsReach (b : Band) (row l : ℕ) (r : Reach) : Type 0 where
  pub is : r ≡ reach_of b row l
  pub small : r.y < 2 ^ 17

pub record IsSpan (b : Band) (c : Column) (r : Span) : Type 0 where
  pub is : r ≡ span_of b c
  pub small : r.x ≤ 16384
  pub narrow : r.width < 2 ^ 26

abbrev pub slot_of : Shape → ℕ → Slot
slot_of s k = record { first = slot_type s k; types = slot_types s k; line = slot_line k }

-- the band of candidate j of slot k
abbrev pub candidate_band : Shape → ℕ → ℕ → ℕ
candidate_band s k j = band s (slot_type s k + j / s.nc) (j % s.nc)

-- the bits of band b's field D in a precinct header, which a band that does not exist, or that there is not, does not have
abbrev pub mode_width : Shape → ℕ → ℕ
mode_width s b = cond (ltb b (NL s)) (2 * cond (band_exists s b) 1 0) 0
