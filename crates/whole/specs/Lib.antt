-- Whole numbers, and slices of them, as the crates above speak of them.
pub mod Numbers
pub mod Cells
