pub mod Lengths
pub mod Cutting
pub mod ReadBack
pub mod WriteBack
pub mod Whole
pub mod Places
pub mod Fits
