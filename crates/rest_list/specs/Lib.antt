-- T-13's program: a list, then turns of the round until no message waits.
pub mod Text
pub mod Rested
pub mod Claims
pub mod Cases
pub mod Mutants
pub mod Chains
