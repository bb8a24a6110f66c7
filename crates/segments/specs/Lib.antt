pub mod Bands
pub mod Components
pub mod Weights
pub mod Segments
