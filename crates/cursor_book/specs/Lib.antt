pub mod Cursors
pub mod Ends
pub mod Shelved
