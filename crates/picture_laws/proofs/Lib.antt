pub mod FittingLaws
pub mod PicturingLaws
