pub mod View
pub mod Gives
pub mod Step
pub mod Outcome
pub mod End
pub mod Report
