-- Laws of a damaged page's slices.
pub mod Stretches
pub mod Losses
pub mod LostRows
pub mod Numbering
pub mod Turns
pub mod Reaching
pub mod Laws
pub mod Walked
pub mod Pieces
pub mod Kept
pub mod Apart
