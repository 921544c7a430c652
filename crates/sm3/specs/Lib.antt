pub mod Words
pub mod Compress
pub mod Steps
pub mod Hash
pub mod View
pub mod Laws
