-- Laws of Annex F, as far as it is built.
pub mod Laws
pub mod Table
pub mod Pass
