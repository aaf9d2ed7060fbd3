-- A message as tagged fields, and what is claimed of them.
pub mod Fields
pub mod Parts
pub mod Claims
