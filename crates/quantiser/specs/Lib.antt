-- Annex D, in its own order, and the number that the distance rule gives a band.
pub mod Inverse
pub mod Note
pub mod Forward
pub mod Distance
