-- Annex C: one packet of a precinct.
pub mod Precincts
pub mod Ready
pub mod Passes
pub mod Packets
pub mod Steps
pub mod Table
pub mod Pieces
pub mod Stored
pub mod Walked
pub mod Counted
pub mod Leftover
