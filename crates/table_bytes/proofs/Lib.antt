-- Laws of the byte form, from the bottom up.
pub mod Records
pub mod Widths
pub mod RoundTrip
