-- The proofs of specs/Claims and specs/Cases: records compared, texts taken apart, lines without a line end inside, the bench's text read off, and single lists.
pub mod Records
pub mod Parts
pub mod Plain
pub mod ReadOff
pub mod Cases
