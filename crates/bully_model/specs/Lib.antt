-- The definitions, from the bottom up. docs/READING-BULLY.md goes by Appendix I's order.
pub mod Node
pub mod Procedures
pub mod Calls
pub mod Range
pub mod State
pub mod Step
pub mod Answers
pub mod Claims
pub mod Cases
