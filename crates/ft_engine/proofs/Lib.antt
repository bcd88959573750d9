pub mod AggregateLaws
pub mod AnsweringLaws
mod BehindLaws
pub mod CleaningLaws
pub mod CollectionLaws
pub mod CursorLaws
pub mod EngineLaws
pub mod EventLaws
pub mod ExactLaws
pub mod FilterLaws
pub mod IndexCommandLaws
pub mod InfoLaws
pub mod MarkLaws
pub mod MovesLaws
pub mod OpeningLaws
pub mod PictureLaws
mod PlainLaws
mod PreparedLaws
mod ReadLaws
mod RemovalLaws
pub mod SearchLaws
mod SteppingLaws
pub mod TagLaws
pub mod ThinningLaws
mod WritingLaws
pub mod KeptLaws
pub mod PartLaws
pub mod SplicedLaws
