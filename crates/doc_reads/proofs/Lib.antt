pub mod AskLaws
pub mod HintLaws
pub mod KeyLaws
pub mod PageLaws
pub mod ShapeLaws
pub mod StreamLaws
