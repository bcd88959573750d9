pub mod AliasLemmas
pub mod CountLaws
mod Examples
pub mod FieldOptionsAgain
pub mod FieldOptionsSpellable
pub mod FieldsAgain
pub mod FieldsSpellable
pub mod LawfulLaws
pub mod OptionsAgain
pub mod OptionsSpellable
pub mod Parts
mod SerialLaws
pub mod SpellableLaws
pub mod SpelledAgain
mod SpellingExamples
pub mod Steps
