pub mod Chains
pub mod Agreement
pub mod Rounds
