pub mod Framing
pub mod Receiving
pub mod Numbering
pub mod Alerting
