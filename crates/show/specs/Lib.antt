-- The text of a page or of why it was refused, and how it goes into a lent buffer.
pub mod Text
pub mod Planes
pub mod Buffer
pub mod Modes
pub mod Why
