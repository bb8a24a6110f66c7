-- Document 01's distance rule.
pub mod Rule
pub mod Steps
