-- Annex F of ISO/IEC 21122-1, as far as it is built.
pub mod Rct
pub mod Table
pub mod Kinds
pub mod Pass
