pub mod Forms
pub mod RoundTrip
pub mod Cases
