pub mod DecimalLaws
pub mod TextLaws
pub mod LineLaws
pub mod ReadBack
pub mod LineInjective
pub mod ResultInjective
pub mod Cases
