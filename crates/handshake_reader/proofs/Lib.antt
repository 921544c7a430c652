pub mod Cuts
pub mod Readings
pub mod Framing
pub mod Listed
pub mod Chained
