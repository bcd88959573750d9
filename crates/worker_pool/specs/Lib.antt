pub mod Jobs
pub mod Names
pub mod Rounds
pub mod Visits
pub mod Works
