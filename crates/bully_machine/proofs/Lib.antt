pub mod Laws
pub mod Steps
pub mod Runs
pub mod Mutants
