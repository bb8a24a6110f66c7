-- The page reader: what a reading answers, and what it leaves in the lent buffers.
pub mod Settings
pub mod Decoding
pub mod Page
pub mod Modes
pub mod Places
pub mod Judging
pub mod Steps
pub mod Sizes
