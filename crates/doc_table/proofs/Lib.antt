-- What the rows of the table and the bits of its ids obey.
pub mod VectorLaws
pub mod TableLaws
pub mod FindLaws
pub mod MarkLaws
pub mod WordLaws
pub mod PlaceLaws
pub mod PagesLaws
pub mod NextLaws
