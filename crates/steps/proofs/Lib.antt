pub mod GivesLaws
pub mod CountLaws
pub mod StepLaws
pub mod OutcomeLaws
pub mod EndLaws
pub mod ReportLaws
