-- The alphabet by its places, and what the functions promise of it.
pub mod Events
