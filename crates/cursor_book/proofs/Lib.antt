pub mod EachLaws
pub mod EndsLaws
pub mod OrderLaws
pub mod PlaceLaws
pub mod RisingLaws
pub mod ShelvedLaws
