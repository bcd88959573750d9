pub mod TokensLaws
pub mod RunsLaws
pub mod SlicesLaws
pub mod StepLaws
