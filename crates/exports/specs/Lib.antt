pub mod Boundary
pub mod BullyBoundary
pub mod TurnBoundary
pub mod Parts
pub mod Claims
