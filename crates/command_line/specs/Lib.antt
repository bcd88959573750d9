pub mod Forms
pub mod Line
