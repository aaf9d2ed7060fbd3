-- What running the events of a list gives: its lines, and the table that it leaves.
pub mod Ran
