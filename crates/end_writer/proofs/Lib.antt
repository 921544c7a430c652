pub mod Sealed
pub mod Framed
pub mod Joined
pub mod Lengths
pub mod Following
