pub mod Alike
pub mod Shifts
pub mod Sessions
