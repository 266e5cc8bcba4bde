pub mod AlteredLaws
pub mod TrialLaws
