pub mod Hmac
pub mod Pieces
pub mod Keyed
pub mod Prf
pub mod View
pub mod Laws
pub mod Vectors
