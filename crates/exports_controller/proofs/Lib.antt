pub mod Reading
pub mod Outcomes
pub mod Promises
pub mod Boundary
