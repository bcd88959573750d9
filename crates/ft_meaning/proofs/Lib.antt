mod Examples
pub mod HoldsLaws
pub mod MeaningLaws
