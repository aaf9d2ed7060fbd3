-- Laws of the byte form, from the bottom up, and of reading a field.
pub mod Records
pub mod Widths
pub mod RoundTrip
pub mod Reading
pub mod Cases
