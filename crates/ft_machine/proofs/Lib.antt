pub mod CleanLaws
pub mod NameLaws
pub mod DeterminedLaws
pub mod Examples
pub mod Stepping
