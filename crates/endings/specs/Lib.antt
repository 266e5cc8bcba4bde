pub mod Answers
pub mod Endings
pub mod Sums
pub mod Cases
