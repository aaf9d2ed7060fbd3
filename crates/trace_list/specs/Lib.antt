-- The run step by step, in pieces: when a step moves the table, what a trace still gives, and what the functions promise.
pub mod Steps
pub mod Pieces
