pub mod Octets
pub mod Numbers
pub mod Laid
pub mod Roles
