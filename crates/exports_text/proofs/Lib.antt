pub mod Out
pub mod Short
pub mod Trace
pub mod Room
pub mod Window
