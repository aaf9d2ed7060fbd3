-- The desk's "run step by step": a record and a message in words, the lines of a step, the whole text, how the bench's text is read off it, and what is claimed of them.
pub mod Words
pub mod Trace
pub mod ReadOff
pub mod Claims
pub mod Cases
