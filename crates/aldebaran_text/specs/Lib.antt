-- T-12, "For the model-checking tools": the states and the transitions of short lists, their text, and what is claimed of them.
pub mod System
pub mod Text
pub mod Claims
pub mod Cases
