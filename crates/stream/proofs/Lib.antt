pub mod LineLaws
pub mod CarryLaws
pub mod ChunkLaws
pub mod EveryLine
pub mod SmallCases
