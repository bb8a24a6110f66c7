-- Laws of codes, of groups and of lines.
pub mod Codes
pub mod Groups
pub mod Lines
pub mod Laws
pub mod Examples
