pub mod Holds
pub mod Meaning
pub mod Member
pub mod Records
pub mod Sortable
