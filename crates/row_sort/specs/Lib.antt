pub mod Order
pub mod Sorting
pub mod First
pub mod Seen
pub mod Held
