-- Annex G of ISO/IEC 21122-1, as far as it is built.
pub mod Linear
pub mod Constants
