-- Annex A's slices and Annex C's precincts: from the first slice header to the end marker.
pub mod Precinct
pub mod Slice
pub mod Stream
pub mod Reached
pub mod Predicted
pub mod Steps
pub mod Table
pub mod Pieces
pub mod Walk
