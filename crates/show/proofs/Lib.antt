pub mod Counted
pub mod Digits
pub mod Puts
pub mod Reasons
pub mod Worded
pub mod Once
