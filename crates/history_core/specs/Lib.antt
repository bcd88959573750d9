pub mod Commands
pub mod Entries
pub mod Events
pub mod Histories
pub mod Pictures
pub mod Running
