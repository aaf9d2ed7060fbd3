-- What the search for short lists means: its stack of tables, the beginning of a line, and what the functions promise.
pub mod Stack
pub mod Line
pub mod Search
