-- The controller on bytes.
pub mod Field
pub mod Boundary
pub mod Parts
