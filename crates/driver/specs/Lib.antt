pub mod Turned
pub mod Scheduled
pub mod Claims
pub mod Mutants
pub mod Parts
