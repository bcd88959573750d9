mod AnswerLaws
mod BlockingLaws
mod CallerLaws
pub mod Crossing
mod EndingLaws
mod FormLaws
mod MarkerLaws
mod PieceLaws
mod PlainLaws
mod PlayingLaws
mod QuitLaws
mod SerialLaws
mod ServingLaws
mod SpentLaws
mod TalkLaws
mod TellingLaws
mod WeakerLaws
