-- Document 02, C-11, of pages with Fs = 0 and a number left in the sign length: 'Such a page reads as if the field held 0.' A packet, in two streams that are
-- the same there but for that field.
use Rattle.std.specs.Prelude.{ℕ, ◌+◌, ◌≡◌, List, ℤ}
use Rattle.bits.specs.Alike.{Alike}
use Rattle.layout.specs.Headers.{header_bytes_of}
use Rattle.packets.specs.declared.Setting.{Setting}
use Rattle.packets.specs.declared.Precinct.{Precinct}
use Rattle.packets.specs.Packets.{head, sig_at, sgn_at, past, packet}
use Rattle.packets.specs.Pieces.{packet_pieces}

module _ (s s' : List ℕ) (c : Setting) (p : Precinct) (slot at : ℕ) where
  -- the same precinct header; Table C.4's fields without Lsgn; and Table C.5's subpackets as far as the signs, which Fs = 0 leaves out
  pub record ButSignLength : Type 0 where
    pub precinct : Alike s s' p.at (p.at + header_bytes_of c.shape)
    pub dr : (head s' c p slot at).dr ≡ (head s c p slot at).dr
    pub ldat : (head s' c p slot at).ldat ≡ (head s c p slot at).ldat
    pub lcnt : (head s' c p slot at).lcnt ≡ (head s c p slot at).lcnt
    pub body : Alike s s' (sig_at s c p slot at) (sgn_at s c p slot at)

  -- all that a precinct takes from its packet: the verdict and the cells, the raw flag, the place behind it, and where its bytes went
  pub record SameLeft (raws : List ℕ) (cells : List ℤ) : Type 0 where
    pub left : packet s' c p slot at raws cells ≡ packet s c p slot at raws cells
    pub dr : (head s' c p slot at).dr ≡ (head s c p slot at).dr
    pub past : past s' c p slot at ≡ past s c p slot at
    pub pieces : packet_pieces s' c p slot at cells ≡ packet_pieces s c p slot at cells
