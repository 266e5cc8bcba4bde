pub mod FailedSet
pub mod Solutions
pub mod Search
pub mod Applicable
pub mod Selected
pub mod Cases
pub mod Least
