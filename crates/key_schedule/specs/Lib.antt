pub mod Schedule
pub mod Parts
pub mod View
pub mod Laws
pub mod Vectors
