pub mod Terms
pub mod Rows
pub mod Starts
pub mod Tags
pub mod Splices
pub mod Changes
