-- `bits::packet::PacketHeader::read` meets its contract: it is four steps of a cursor. Assumes nothing.
use Rattle.bits.proofs.Headers.{is_header}
use Rattle.bits.proofs.packet.PacketHeader.read.Goals as goal

pub returns : goal.returns
returns c =
    is_header
    c.requires.1
    c.new-cursor.ensures
    c.read-dr.ensures
    c.read-ldat.ensures
    c.read-lcnt.ensures
    c.read-lsgn.ensures
