-- T-13, "It comes to rest": the events that are left, the potential that each of them lowers, the turns until no message waits, and what is claimed of them.
pub mod Quiet
pub mod Potential
pub mod Turns
pub mod Claims
pub mod Cases
