pub mod View
pub mod SetUps
pub mod Shown
