pub mod AlikeLaws
pub mod MarkLaws
