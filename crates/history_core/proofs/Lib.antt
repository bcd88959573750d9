pub mod CommandLaws
mod EventLaws
pub mod GrowingLaws
pub mod PictureLaws
mod RunningLaws
