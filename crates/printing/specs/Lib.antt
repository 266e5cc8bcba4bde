pub mod Decimal
pub mod LineText
pub mod Prints
pub mod Cases
