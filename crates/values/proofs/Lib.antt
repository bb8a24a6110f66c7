-- Laws of the definitions, and the lemmas of the code's proofs.
pub mod Planes
pub mod Places
pub mod Groups
pub mod Lanes
pub mod Lines
pub mod Laws
pub mod Examples
