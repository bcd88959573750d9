-- The definitions of indexes, in order of creation, how often a document failed to be in them, and the documents without
-- the members of one.
use Rattle.std.specs.Prelude.{ℕ, List, [], ◌∷◌, map, fold, Option, Some, None, if◌then◌else◌}
use Rattle.std.specs.Str.{bytes_eq}
use Rattle.ft_base.specs.Space.{erase}
use Rattle.ft_base.specs.declared.definition.IndexDef.{IndexDef}
use Rattle.ft_base.specs.Docs.{Doc}
use Rattle.ft_meaning.specs.Member.{failures_with, members}

pub record Defined : Type 0 where
  pub def : IndexDef
  -- how often a document failed to be a member, since the index was created
  pub failures : ℕ

-- the count once an index has tried these documents, in their order
abbrev pub failures_over : IndexDef → List Doc → ℕ → ℕ
failures_over def docs failures = fold (λ count doc. failures_with def doc count) failures docs

-- an index that has tried a document
abbrev pub tried : Doc → Defined → Defined
tried doc index = record index { failures = failures_with index.def doc index.failures }

-- each index tries a document that is written, where one is
abbrev pub all_tried : Option Doc → List Defined → List Defined
all_tried None indexes = indexes
all_tried (Some doc) indexes = map (tried doc) indexes

-- the index of this name, where there is one
abbrev pub index_of : List Defined → List ℕ → Option Defined
index_of [] name = None
index_of (index ∷ indexes) name = if bytes_eq name index.def.name then Some index else index_of indexes name

-- the others
abbrev pub without_index : List Defined → List ℕ → List Defined
without_index [] name = []
without_index (index ∷ indexes) name = if bytes_eq name index.def.name then indexes else index ∷ without_index indexes name

-- an index in the place of the one of its name
abbrev pub with_index : List Defined → Defined → List Defined
with_index [] new = []
with_index (index ∷ indexes) new = if bytes_eq new.def.name index.def.name then new ∷ indexes else index ∷ with_index indexes new

-- the documents but those of the keys
abbrev pub without_keys : List Doc → List (List ℕ) → List Doc
without_keys docs [] = docs
without_keys docs (key ∷ keys) = without_keys (erase docs key) keys

-- the keys of an index's members
abbrev pub member_keys : IndexDef → List Doc → List (List ℕ)
member_keys def docs = map (λ (doc : Doc). doc.key) (members def docs)

-- the documents but the members of an index, where there is the index
abbrev pub without_members : Option Defined → List Doc → List Doc
without_members None docs = docs
without_members (Some index) docs = without_keys docs (member_keys index.def docs)
