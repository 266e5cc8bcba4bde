pub mod PastEnd
pub mod FieldLaws
pub mod RowLaws
pub mod PartLaws
