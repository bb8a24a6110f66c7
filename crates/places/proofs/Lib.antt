-- Laws of filling cells with numbers.
pub mod Laws
