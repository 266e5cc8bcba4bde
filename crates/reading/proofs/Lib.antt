pub mod FieldLaws
pub mod NumberLaws
pub mod ScanLaws
pub mod LongLines
pub mod LetterLaws
pub mod PrintedLaws
pub mod SmallCases
