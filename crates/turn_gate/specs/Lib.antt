pub mod Known
pub mod Log
pub mod Rule
pub mod Steps
pub mod Views
