pub mod Format
pub mod Parts
pub mod Claims
pub mod Cases
