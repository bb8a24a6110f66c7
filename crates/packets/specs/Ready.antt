-- What the packets of a page rest on: an accepted header, and an accepted precinct header in a stream and cells that are long enough.
use Rattle.std.specs.Prelude.{◌≡◌, true, List, ℕ, ◌%◌, ◌^◌, ◌≤◌, ◌<◌, length, get_or}
use Rattle.bits.specs.Packet.{Fit}
use Rattle.layout.specs.Bands.{NL, band_exists}
use Rattle.layout.specs.Built.{Built}
use Rattle.layout.specs.Headers.{mode_bits, header_bytes_of}
use Rattle.layout.specs.Precincts.{Npx, Npy}
use Rattle.layout.specs.Cells.{start}
use Rattle.layout.specs.Slots.{slots}
use Rattle.packets.specs.declared.Setting.{Setting}
use Rattle.packets.specs.declared.Precinct.{Precinct}
use Rattle.packets.specs.Precincts.{D}

-- gains are 0 to 15; what is worked out once for a page is what the shape makes it
pub record Settled (c : Setting) : Type 0 where
  pub shape : Built c.shape
  pub widths : Fit c.widths
  pub br : c.br ≤ 5
  pub fq : c.fq ≤ 15
  pub gains : (b : ℕ) → get_or c.gains b 0 ≤ 15
  pub modes : c.modes ≡ mode_bits c.shape
  pub head : c.head ≡ header_bytes_of c.shape

-- `cells` is the number of work cells that are lent. Vertical prediction has a line above: row 8 refuses it in the top row of a slice
pub record Standing (s : List ℕ) (c : Setting) (p : Precinct) (cells : ℕ) : Type 0 where
  pub short : length s < 2 ^ 32
  pub row : p.row < Npy c.shape
  pub column : p.column < Npx c.shape
  pub at : p.at ≤ p.end
  pub end : p.end ≤ length s
  pub predicted : (b : ℕ) → b < NL c.shape → band_exists c.shape b ≡ true → D s c p b % 2 ≡ 1 → 0 < p.row
  pub room : start c.shape c.shape.nc ≤ cells

-- one of the precinct's slots
pub record Slotted (c : Setting) (p : Precinct) (slot : ℕ) : Type 0 where
  pub settled : Settled c
  pub row : p.row < Npy c.shape
  pub column : p.column < Npx c.shape
  pub which : slot < slots c.shape
