-- T-09, the round of the cable, over the definitions of `model`: the order of the round, a turn, schedules, and what is claimed.
pub mod Order
pub mod Turn
pub mod Schedule
pub mod Claims
pub mod Cases
