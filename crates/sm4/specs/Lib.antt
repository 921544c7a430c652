pub mod Cipher
pub mod Laws
pub mod Sbox
pub mod Transform
pub mod View
pub mod Words
