pub mod Cycles
pub mod Ways
