pub mod Values
pub mod Ranges
pub mod Added
pub mod Splicing
pub mod Rows
