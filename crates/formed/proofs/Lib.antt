pub mod ListLaws
pub mod RuleLaws
pub mod StateLaws
pub mod WellFormedLaws
