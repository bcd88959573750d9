pub mod Tokens
pub mod Runs
pub mod Slices
