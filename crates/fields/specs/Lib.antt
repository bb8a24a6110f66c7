-- The fixed list of the fields' names, and which of them hold codes.
pub mod Letters
pub mod Names
