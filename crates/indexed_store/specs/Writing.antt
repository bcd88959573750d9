-- A document that waits to be written.
use Rattle.std.specs.Prelude.{◌≡◌, ◌<◌, ℕ, List, length, Option, Some, None}
use Rattle.std.specs.List.{All}
use Rattle.ft_base.specs.Space.{write}
use Rattle.ft_base.specs.Docs.{Doc}
use Rattle.ft_index.specs.Index.{Index}
use Rattle.ft_meaning.specs.Meaning.{ValuesFit}
use Rattle.indexed_store.specs.Indexing.{Awaits}

-- the documents once the one that waits is written
abbrev pub written : Option Doc → List Doc → List Doc
written None docs = docs
written (Some doc) docs = write docs doc.key doc.hash doc.id

-- A document of this event waits in the store and in each index.
pub record IsWaiting (put number : ℕ) (space : List Doc) (indexes : List Index) (doc : Doc) : Type 0 where
  pub id : doc.id ≡ number
  pub same : put ≡ number
  pub filled : 0 < length doc.hash
  pub fits : ValuesFit doc.hash
  pub awaits : All (Awaits space doc) indexes

abbrev pub Waits : ℕ → ℕ → List Doc → List Index → Option Doc → Type 0
Waits put number space indexes None = ⊥
Waits put number space indexes (Some doc) = IsWaiting put number space indexes doc
