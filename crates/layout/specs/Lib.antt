-- Annex B: bands, precincts, lines and packets of a picture, where each coefficient lies, and the part of Annex C that counts bands.
pub mod Bands
pub mod Precincts
pub mod Slices
pub mod Packets
pub mod Headers
pub mod Built
pub mod Cells
pub mod Slots
pub mod Sizes
