-- T-05: what the functions over a table's counts compute, and what is claimed of it.
pub mod Rows
pub mod Claims
