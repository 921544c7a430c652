pub mod Blocks
pub mod Bounds
pub mod Example
pub mod Feistel
pub mod Loops
pub mod Permutes
pub mod Table
pub mod Undo
