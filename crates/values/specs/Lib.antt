-- The indices of one line of one band, and the coefficients that they make: a code group, then the line, then what the code's steps answer, and a group as words.
pub mod Group
pub mod Line
pub mod Steps
pub mod Lanes
