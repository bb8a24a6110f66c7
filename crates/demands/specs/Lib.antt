-- The customer's demands, and what they speak of.
pub mod Stored
pub mod Lost
pub mod Table
pub mod Uncut
pub mod Demands
pub mod Caption
pub mod Damaged
pub mod Places
pub mod Why
pub mod Bytes
