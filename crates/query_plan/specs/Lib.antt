pub mod Finds
pub mod Phrases
pub mod Plans
pub mod Sought
pub mod Asked
