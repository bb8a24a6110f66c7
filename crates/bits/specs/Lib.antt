-- Fields of a stretch of bytes, a cursor over them, the packet header, the groups of a line, and streams that are the same in a part.
pub mod Fields
pub mod Cursors
pub mod Packet
pub mod Groups
pub mod Alike
