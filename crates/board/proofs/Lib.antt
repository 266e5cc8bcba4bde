pub mod ColumnLaws
pub mod LineLaws
pub mod PageLaws
pub mod FitLaws
pub mod InjectiveLaws
pub mod BoardLaws
pub mod Cases
