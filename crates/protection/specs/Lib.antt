pub mod Limits
pub mod Errors
pub mod Keys
pub mod Calls
pub mod Owed
pub mod Pairs
