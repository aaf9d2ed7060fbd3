pub mod Suits
pub mod Weights
pub mod Falls
pub mod Turns
pub mod Cases
