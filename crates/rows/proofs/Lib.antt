pub mod Tables
pub mod Passing
pub mod Sites
pub mod Low
