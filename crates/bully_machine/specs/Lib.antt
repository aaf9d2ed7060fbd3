pub mod Stepped
pub mod Folded
pub mod Claims
pub mod Mutants
pub mod Parts
