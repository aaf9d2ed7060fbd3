-- Laws of numbers and records as bytes, from the bottom up.
pub mod Numbers
pub mod Same
pub mod Records
pub mod Widths
pub mod Lent
