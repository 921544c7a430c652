pub mod Passed
pub mod ByKind
pub mod TwoFit
pub mod Hellos
pub mod Taken
