pub mod Rules
pub mod Refusal
pub mod Parser
pub mod Cases
pub mod Counts
