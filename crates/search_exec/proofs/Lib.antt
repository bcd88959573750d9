pub mod AggregateLaws
pub mod CandidatesLaws
pub mod ColumnLaws
pub mod FieldLaws
pub mod FoundLaws
pub mod RowsReplyLaws
pub mod SearchLaws
