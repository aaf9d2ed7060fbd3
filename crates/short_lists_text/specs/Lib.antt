-- T-01, "All short lists": the lists, their order, their text, and what is claimed of them.
pub mod Rows
pub mod Order
pub mod Lists
pub mod Text
pub mod Claims
pub mod Cases
