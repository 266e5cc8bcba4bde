pub mod Call
pub mod Spoken
pub mod Fields
pub mod Printed
pub mod Cases
