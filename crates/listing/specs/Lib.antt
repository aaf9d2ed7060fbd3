pub mod Ascii
pub mod Decimal
pub mod Printing
pub mod Lines
pub mod Parts
pub mod Claims
pub mod Cases
