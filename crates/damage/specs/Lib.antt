-- Document 02, C-15: reading damaged pages. What a spoilt slice loses, and how the reading goes on behind it.
pub mod Lost
pub mod Stream
pub mod Pieces
pub mod Steps
pub mod Apart
