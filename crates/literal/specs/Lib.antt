pub mod Literal
pub mod Word
pub mod Environment
pub mod Match
pub mod Divide
pub mod Cases
