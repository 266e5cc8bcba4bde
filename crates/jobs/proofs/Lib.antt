pub mod FlatLaws
pub mod PlaceLaws
pub mod DecisionLaws
