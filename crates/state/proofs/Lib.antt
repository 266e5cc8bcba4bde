pub mod ViewLaws
pub mod SearchSteps
pub mod QueueLaws
pub mod StackLaws
pub mod StateLaws
pub mod CountParts
pub mod RowLaws
