-- Laws of Annex G, as far as it is built.
pub mod Laws
