pub mod Content
pub mod Opened
pub mod Outcome
pub mod Why
