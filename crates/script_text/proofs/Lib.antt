pub mod Digits
pub mod Repeats
