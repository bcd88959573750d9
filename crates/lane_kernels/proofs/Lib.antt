pub mod BytesLaws
pub mod RunLaws
pub mod RangeLaws
