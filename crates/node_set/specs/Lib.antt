pub mod NodeSet
pub mod Claims
