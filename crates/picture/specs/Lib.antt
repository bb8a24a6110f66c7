pub mod Markers
pub mod Segment
pub mod Picture
pub mod Opening
