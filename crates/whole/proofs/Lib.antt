-- Laws of whole numbers, and of lists, each once.
pub mod Linear
pub mod Machine
pub mod Ceiling
pub mod TwoKinds
pub mod Within
pub mod Passes
pub mod Lists
pub mod Same
pub mod Filling
