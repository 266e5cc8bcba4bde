pub mod Beliefs
pub mod Table
pub mod Removal
