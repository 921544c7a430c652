pub mod Chains
pub mod Example
pub mod Keeps
pub mod Loops
pub mod Undo
pub mod Xors
