pub mod Lays
pub mod Alike
pub mod Members
