pub mod Layings
pub mod Sizes
pub mod Written
