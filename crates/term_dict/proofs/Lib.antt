pub mod TermLaws
pub mod StartLaws
pub mod TagLaws
pub mod CountLaws
pub mod SpliceLaws
pub mod FieldLaws
