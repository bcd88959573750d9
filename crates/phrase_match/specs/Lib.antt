pub mod Look
pub mod Phrase
pub mod Places
pub mod Turns
