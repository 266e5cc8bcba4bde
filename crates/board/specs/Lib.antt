pub mod Page
pub mod Columns
pub mod Board
pub mod Cases
