-- Document 02, C-16: the pieces of a packet in their order (Table C.5). 'Each subpacket decoder shall also answer how many bytes its decoded content takes, padding
-- to the byte included.' What a count, data or sign subpacket declares behind its content is filler; a significance subpacket has none, for its length is inferred.
use Rattle.std.specs.Prelude.{ℕ, ◌-◌, List, [], ◌∷◌, ℤ, Ok, Err}
use Rattle.whole.specs.Numbers.{ceil_div}
use Rattle.pieces.specs.Pieces.{Piece, Packets, Significance, Counts, Data, Signs, Filler}
use Rattle.bits.specs.Packet.{header_bytes}
use Rattle.counts.specs.Lines.{Line as LineCounts}
use Rattle.values.specs.declared.Next.{Next}
use Rattle.packets.specs.declared.Setting.{Setting}
use Rattle.packets.specs.declared.Precinct.{Precinct}
use Rattle.packets.specs.Packets.{head, Lsig, Lsign, counts_of}
use Rattle.packets.specs.Table.{values_after}

-- the bits of the counts, as far as the end of the last code. Counts that are refused have no content
abbrev pub count_content : LineCounts → ℕ
count_content (Ok k) = ceil_div k.next 8
count_content (Err f) = 0

-- the nibbles of the data, Annex C's sign nibbles among them where Fs = 0. `data_content_lem` shows that they are those that the data's decoder reads
abbrev pub data_content : LineCounts → ℕ
data_content (Ok k) = ceil_div k.need 2
data_content (Err f) = 0

-- the sign bits, of which there are none where Fs = 0
abbrev pub sign_content : Next → ℕ
sign_content n = ceil_div n.sign 8

-- by the lengths of the subpackets, as they are inferred and declared, what the counts come to, and where the values end
abbrev pub pieces_of : Setting → ℕ → ℕ → ℕ → ℕ → LineCounts → Next → List Piece
pieces_of c sig cnt dat sgn counts next =
    (Packets, header_bytes c.widths)
    ∷ (Significance, sig)
    ∷ (Counts, count_content counts)
    ∷ (Filler, cnt - count_content counts)
    ∷ (Data, data_content counts)
    ∷ (Filler, dat - data_content counts)
    ∷ (Signs, sign_content next)
    ∷ (Filler, sgn - sign_content next)
    ∷ []

-- the packet whose header stands at `at`. `cells` is what the packets before it leave
unfoldable pub packet_pieces : List ℕ → Setting → Precinct → ℕ → ℕ → List ℤ → List Piece
packet_pieces s c p slot at cells =
    let h = head s c p slot at in
    pieces_of c (Lsig s c p slot at) h.lcnt h.ldat (Lsign s c p slot at) (counts_of s c p slot at cells).0 (values_after s c p slot at cells).0
