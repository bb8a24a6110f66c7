-- C.3: the packet header, over the widths of its fields.
use Rattle.std.specs.Prelude.{ℕ, ◌+◌, ◌*◌, ◌/◌, ◌^◌, ◌≤◌, ◌<◌, ◌≡◌, cond, ◌&&◌, List, ltb, eqb}
use Rattle.bits.specs.Fields.{field}
use Rattle.bits.specs.declared.packet.Widths.{Widths}
use Rattle.bits.specs.declared.packet.PacketHeader.{PacketHeader}

-- Table C.4, short packet header: Ldat u(15), Lcnt u(13), Lsgn u(11)
abbrev pub short_widths : Widths
short_widths = record { dat = 15; cnt = 13; sgn = 11 }

-- Table C.4, else: Ldat u(20), Lcnt u(20), Lsgn u(15)
abbrev pub long_widths : Widths
long_widths = record { dat = 20; cnt = 20; sgn = 15 }

-- Table C.4: Wf × Nc < 32752 && Lh == 0
abbrev pub widths_for : ℕ → ℕ → ℕ → Widths
widths_for wf nc lh = cond (ltb (wf * nc) 32752 && eqb lh 0) short_widths long_widths

-- Table C.4: Dr u(1) and the three lengths, 40 bits or 56
abbrev pub header_bits : Widths → ℕ
header_bits w = 1 + w.dat + w.cnt + w.sgn

abbrev pub header_bytes : Widths → ℕ
header_bytes w = header_bits w / 8

-- Table C.4: Dr[p,s], Ldat[p,s], Lcnt[p,s], Lsgn[p,s], from the first bit of the byte `place` on
abbrev pub header_at : List ℕ → ℕ → Widths → PacketHeader
header_at s place w =
    record {
      dr = field s (8 * place) 1;
      ldat = field s (8 * place + 1) w.dat;
      lcnt = field s (8 * place + 1 + w.dat) w.cnt;
      lsgn = field s (8 * place + 1 + w.dat + w.cnt) w.sgn;
    }

-- ---- what the readers ask and answer

-- widths within the reach of a reader of fields
pub record Fit (w : Widths) : Type 0 where
  pub dat : w.dat ≤ 24
  pub cnt : w.cnt ≤ 24
  pub sgn : w.sgn ≤ 24

pub record WidthsOf (wf nc lh : ℕ) (r : Widths) : Type 0 where
  pub widths : r ≡ widths_for wf nc lh
  pub fit : Fit r

-- the bounds follow from the header, and stand beside it for the callers' sums
pub record IsHeader (s : List ℕ) (place : ℕ) (w : Widths) (r : PacketHeader) : Type 0 where
  pub header : r ≡ header_at s place w
  pub flag : r.dr < 2
  pub dat : r.ldat < 2 ^ 24
  pub cnt : r.lcnt < 2 ^ 24
  pub sgn : r.lsgn < 2 ^ 24
