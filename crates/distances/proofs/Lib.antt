-- Laws of the distance rule.
pub mod Types
pub mod Bounds
pub mod Descent
pub mod Rules
