pub mod Search
pub mod Gap
pub mod Counts
pub mod Places
pub mod Row
