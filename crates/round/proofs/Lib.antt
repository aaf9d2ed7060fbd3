pub mod Order
pub mod PairQueues
pub mod Turns
pub mod Schedules
pub mod Driver
pub mod Cases
