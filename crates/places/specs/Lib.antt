-- Document 01's distance rule 1, coefficient by coefficient.
pub mod Own
pub mod Steps
pub mod Writes
