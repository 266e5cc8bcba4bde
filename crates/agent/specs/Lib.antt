pub mod TakeUp
pub mod Turnable
pub mod Calls
pub mod Chain
pub mod Feed
pub mod Look
