pub mod Put
pub mod Compared
pub mod Moved
pub mod Given
pub mod Ends
