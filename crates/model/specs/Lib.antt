-- The definitions, from the bottom up. Read them in this order beside document 01; docs/READING.md goes by 01's order.
pub mod Pick
pub mod Limits
pub mod Counts
pub mod Node
pub mod Recovery
pub mod Procedures
pub mod React
pub mod Range
pub mod State
pub mod Grounds
pub mod Step
pub mod Traffic
pub mod History
pub mod Answers
pub mod Claims
pub mod Cases
