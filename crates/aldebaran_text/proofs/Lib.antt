pub mod Numbers
pub mod States
pub mod Transitions
pub mod Labels
pub mod Cases
pub mod Text
