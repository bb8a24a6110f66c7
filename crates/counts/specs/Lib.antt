-- The bitplane counts of one line of one band (Annex C): their code, the groups' tables, and the line in the work cells.
pub mod Codes
pub mod Groups
pub mod Lines
pub mod Steps
