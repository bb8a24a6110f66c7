-- Laws of the reader.
pub mod Openings
pub mod Shown
pub mod Lost
pub mod Marking
pub mod Placing
pub mod Decoded
pub mod Leaving
pub mod Judgement
