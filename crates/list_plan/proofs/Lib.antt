pub mod KnownLaws
pub mod UnionLaws
pub mod GainLaws
pub mod AloneLaws
pub mod PartLaws
