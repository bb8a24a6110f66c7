-- Document 02, C-16: the pieces of a stream.
pub mod Pieces
