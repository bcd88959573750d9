-- The tags and the number of a field's value, and the ends of an interval of numbers.
pub mod Bounds
pub mod Tags
pub mod Numbers
pub mod Seen
