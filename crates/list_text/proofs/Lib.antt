-- The proofs of what specs/ claims, and laws for the crates that print and parse.
pub mod Cases
pub mod Fields
pub mod Numbers
pub mod Parts
pub mod Found
pub mod Lengths
pub mod Lines
pub mod Fits
pub mod Script
pub mod Claims
pub mod Damage
pub mod Places
pub mod Pasted
