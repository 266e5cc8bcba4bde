pub mod WaysLaws
pub mod SumLaws
pub mod Cases
