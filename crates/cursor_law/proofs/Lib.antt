pub mod ListLaws
pub mod ReadLaws
pub mod CursorLaws
pub mod StateLaws
pub mod SerialLaws
pub mod PartLaws
pub mod ReadingLaws
pub mod StepLaws
pub mod OpeningLaws
pub mod HistoryLaws
pub mod ExampleWords
pub mod Examples
mod FilterExample
