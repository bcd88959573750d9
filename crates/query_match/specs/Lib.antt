pub mod Places
pub mod Searched
pub mod Wanted
