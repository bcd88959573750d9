-- What contracts see of the documents of an index, and how the code's rows and bits stand for it.
pub mod Table
pub mod Forms
pub mod Vectors
pub mod Rows
pub mod Pages
