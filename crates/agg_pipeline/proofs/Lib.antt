pub mod CellsLaws
pub mod DistinctLaws
pub mod EqualLaws
pub mod FeedLaws
pub mod GroupLaws
pub mod GroupsLaws
pub mod KeyedLaws
pub mod LoadingLaws
pub mod MappedLaws
pub mod RankingLaws
pub mod RowMadeLaws
pub mod SeenLaws
pub mod SpellingsLaws
pub mod StatesLaws
pub mod StreamLaws
pub mod TableLaws
mod Examples
