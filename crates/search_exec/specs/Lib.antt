-- What a search is answered, and what it keeps on the way.
pub mod Candidates
pub mod Feeds
pub mod Ranks
