pub mod AliveLaws
pub mod WithoutLaws
pub mod KeepLaws
pub mod RepairLaws
pub mod MendLaws
pub mod SpliceLaws
pub mod GrowingLaws
pub mod WholeLaws
