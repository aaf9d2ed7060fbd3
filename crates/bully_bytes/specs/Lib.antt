-- The byte form of a table of the Bully machine, and its event of a field.
pub mod Bytes
pub mod Field
pub mod Parts
pub mod Claims
pub mod Sizes
