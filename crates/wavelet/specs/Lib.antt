-- Annex E: the inverse 5-3 wavelet transform of one component, and the distance rule along it.
pub mod Filter
pub mod Transform
pub mod Bands
pub mod Distance
pub mod Marks
pub mod Places
pub mod Numbers
pub mod Kinds
pub mod Lines
pub mod Runs
pub mod Grids
