pub mod Fits
pub mod Grounds
