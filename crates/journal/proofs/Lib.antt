pub mod SessionLaws
pub mod AnswerLaws
pub mod AccountLaws
pub mod PieceLaws
pub mod OutputLaws
pub mod LoopLaws
pub mod OneAnswer
pub mod SmallCases
