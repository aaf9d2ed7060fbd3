-- One node's share of the machine, and n of them over one queue.
pub mod Controller
pub mod Stepped
pub mod Parts
pub mod Network
pub mod Claims
pub mod Cases
pub mod Mutants
