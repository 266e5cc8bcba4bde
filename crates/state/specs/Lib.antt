pub mod View
pub mod Queue
pub mod Stacks
pub mod Search
