pub mod TableSteps
pub mod BeliefLaws
pub mod RemovalLaws
