-- The laws of Annex D, each once, for every M and T: Laws and Planes have those that callers cite.
pub mod Sum
pub mod Near
pub mod Laws
pub mod Planes
pub mod Words
