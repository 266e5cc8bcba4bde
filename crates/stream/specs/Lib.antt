pub mod Lines
pub mod Carried
pub mod Calls
pub mod Feeding
pub mod Cases
