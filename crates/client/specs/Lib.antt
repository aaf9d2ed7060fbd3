pub mod Fixed
pub mod Agreed
pub mod Rounded
