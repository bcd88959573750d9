pub mod Refused
pub mod Written
