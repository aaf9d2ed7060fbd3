pub mod Packed
pub mod Seen
