pub mod LiteralLaws
pub mod EnvLaws
pub mod EntryLaws
pub mod MatchLaws
pub mod DivideLaws
pub mod Cases
pub mod WordLaws
