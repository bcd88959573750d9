pub mod SortingLaws
pub mod OrderLaws
pub mod HeldLaws
mod Examples
