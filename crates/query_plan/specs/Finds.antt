-- What a query finds among the documents of an index, by their ids.
use Rattle.std.specs.Prelude.{◌≡◌, ◌<◌, ◌^◌, ◌&&◌, ℕ, List, map, filter, Bool, nat_eq, nat_le}
use Rattle.std.specs.List.{All, list_any}
use Rattle.ft_base.specs.declared.definition.IndexDef.{IndexDef}
use Rattle.ft_base.specs.Docs.{Doc}
use Rattle.ft_base.specs.declared.query.Query.{Query}
use Rattle.ft_meaning.specs.Holds.{holds}
use Rattle.ft_meaning.specs.Meaning.{ValuesFit}
use Rattle.id_iters.specs.Held.{Held}
use Rattle.id_iters.specs.Named.{Named}
use Rattle.ft_index.specs.Has.{Has}
use Rattle.ft_index.specs.Lists.{AllLists, Vector, held_of, named_of}
use Rattle.inverted_list.specs.Listing.{RisesAbove, last_id}

-- whether the document of an id is there and meets the query
abbrev pub finds : Query → IndexDef → List Doc → ℕ → Bool
finds query def docs id = list_any (λ (doc : Doc). nat_eq id doc.id && holds query def doc) docs

-- the ids of the documents that meet a query, in the order of the documents
abbrev pub found_ids : Query → IndexDef → List Doc → List ℕ
found_ids query def docs = map (λ (doc : Doc). doc.id) (filter (λ (doc : Doc). holds query def doc) docs)

-- those of them from a number on
abbrev pub found_from : ℕ → Query → IndexDef → List Doc → List ℕ
found_from from query def docs = map (λ (doc : Doc). doc.id) (filter (λ (doc : Doc). nat_le from doc.id && holds query def doc) docs)

-- The live ids rise from 1 on and are below 2^62, and each value of the documents came as a word of a command.
pub record IsKept (live : List (ℕ × Vector)) (docs : List Doc) : Type 0 where
  pub rise : RisesAbove 0 live
  pub end : last_id 0 live < 2 ^ 62
  pub fit : All (λ (doc : Doc). ValuesFit doc.hash) docs

-- What is read is the lists of an index that has just these documents, and their names.
pub record AreOf (def : IndexDef) (held : Held) (named : Named) (docs : List Doc) : Type 0 where
  pub lists : AllLists
  pub live : List (ℕ × Vector)
  pub same : held ≡ held_of lists live
  pub names : named ≡ named_of lists live
  pub kept : IsKept live docs
  pub has : Has def live lists docs
