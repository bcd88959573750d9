pub mod CommandLaws
pub mod NumberLaws
pub mod StepLaws
