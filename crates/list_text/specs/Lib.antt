-- A list as text, both ways: what is printed for a list, what a text says, what is told of a bad text, and what is claimed of them.
pub mod Text
pub mod Words
pub mod Script
pub mod Message
pub mod Claims
pub mod Cases
