pub mod Buffers
pub mod Fronts
