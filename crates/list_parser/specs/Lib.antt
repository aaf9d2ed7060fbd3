-- What the parser promises.
pub mod Made
