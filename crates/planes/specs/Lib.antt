-- From the coefficients of a picture to its samples.
pub mod Values
pub mod Places
pub mod Numbers
pub mod Marks
pub mod Components
