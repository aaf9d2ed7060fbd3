-- What is promised to Rust and C of lists as text, of the trace, of T-13's text and of the texts of T-01 and T-12.
pub mod Window
pub mod Boundary
