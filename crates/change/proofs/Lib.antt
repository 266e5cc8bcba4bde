pub mod StepLaws
pub mod ChangeLaws
