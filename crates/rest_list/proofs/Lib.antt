pub mod Turns
pub mod Bound
pub mod Behind
pub mod Cases
pub mod Mutants
pub mod Chains
