pub mod Numbers
pub mod LowestBand
pub mod Choices
pub mod Tops
pub mod Searches
pub mod Steps
pub mod Telling
pub mod Named
