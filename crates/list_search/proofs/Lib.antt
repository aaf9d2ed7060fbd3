pub mod Stack
pub mod Lines
pub mod Loop
pub mod Ends
