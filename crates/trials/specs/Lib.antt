pub mod Altered
pub mod Trial
