pub mod Laws
pub mod Picturing
