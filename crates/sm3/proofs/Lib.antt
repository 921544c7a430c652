mod Stepping
mod Filling
pub mod Running
mod Updating
