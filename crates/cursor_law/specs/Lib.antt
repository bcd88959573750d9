pub mod Given
pub mod Law
pub mod Opens
pub mod Steps
pub mod StreamCursor
