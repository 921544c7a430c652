pub mod Faults
pub mod Kinds
pub mod Records
pub mod Seen
pub mod Alerts
pub mod Laws
pub mod Bench
