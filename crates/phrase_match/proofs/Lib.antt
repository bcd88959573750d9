pub mod PlacesLaws
pub mod CountLaws
pub mod ChoiceLaws
pub mod OrderLaws
pub mod AnyOrderLaws
pub mod SearchLaws
pub mod TextLaws
pub mod TurnLaws
