pub mod Contents
pub mod Receives
