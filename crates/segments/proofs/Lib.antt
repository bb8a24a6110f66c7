pub mod NumberLaws
pub mod BandLaws
pub mod Codes
pub mod Tails
pub mod Sites
pub mod Alike
