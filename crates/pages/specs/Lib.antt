-- Whole pages, computed.
pub mod Streams
pub mod Answers
pub mod Table
