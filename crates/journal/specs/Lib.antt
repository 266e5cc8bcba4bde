pub mod Session
pub mod Loop
pub mod Answers
pub mod Account
pub mod Output
pub mod OneAnswer
pub mod Cases
