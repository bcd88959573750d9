pub mod Alive
pub mod Growing
pub mod Markers
pub mod Repaired
pub mod Splice
pub mod Written
