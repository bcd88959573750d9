pub mod Ranks
pub mod Sound
pub mod Chains
pub mod Again
pub mod Stable
pub mod Faults
pub mod OneAnswer
pub mod Lexing
pub mod LentLaws
pub mod LeafLaws
mod Examples
pub mod ChainLaws
