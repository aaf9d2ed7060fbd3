-- Numbers as bytes.
pub mod Bytes
pub mod Sizes
