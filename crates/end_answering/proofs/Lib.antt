pub mod Answered
pub mod Exchanged
