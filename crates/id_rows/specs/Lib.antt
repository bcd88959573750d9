-- Which things the rows have, and how they are given in turn.
pub mod IdRows
pub mod Walk
