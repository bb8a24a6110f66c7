-- Laws of the way from coefficients to samples.
pub mod Parts
pub mod Stretches
pub mod Colouring
pub mod EitherKind
pub mod Transforms
pub mod Pixels
pub mod Laws
pub mod Planes
pub mod LostPlanes
pub mod Marking
pub mod Distances
