-- The customer's demands hold, and what they rest on.
pub mod Unique
pub mod Accepted
pub mod Stored
pub mod One
pub mod Two
pub mod Three
pub mod Lost
pub mod Exact
pub mod Damaged
pub mod Whole
pub mod Places
pub mod Apart
pub mod Walked
pub mod Why
pub mod Caption
pub mod Bytes
