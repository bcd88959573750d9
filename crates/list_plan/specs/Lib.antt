pub mod Groups
pub mod Known
pub mod Parts
pub mod Plans
