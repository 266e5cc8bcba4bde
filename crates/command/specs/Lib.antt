pub mod Cases
pub mod Mode
