pub mod Scanning
pub mod Names
pub mod Places
pub mod Fillings
pub mod Answers
