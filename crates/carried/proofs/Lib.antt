pub mod AlikeLaws
pub mod CarriedLaws
pub mod ShiftLaws
pub mod RestLaws
pub mod LedgerLaws
pub mod SessionLaws
