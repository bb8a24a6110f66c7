-- Document 02, C-19: why a page is refused, and where one that is read is coarsest.
pub mod Coarsest
pub mod Why
pub mod Steps
