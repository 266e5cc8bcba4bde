pub mod Plan
pub mod Kinds
pub mod Bytes
pub mod Layout
