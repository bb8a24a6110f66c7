pub mod Bytes
pub mod Pages
pub mod Distances
