-- What rows by rising ids obey.
pub mod PlaceLaws
pub mod IdRowsLaws
