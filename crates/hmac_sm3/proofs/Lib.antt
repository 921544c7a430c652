pub mod Tags
pub mod Expansions
