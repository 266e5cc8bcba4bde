pub mod Rest
pub mod Cases
