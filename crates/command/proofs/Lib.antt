pub mod Cases
pub mod ModeLaws
