-- What the ids of a set find among documents, and what has to be known of these.
use Rattle.std.specs.Prelude.{◌≡◌, ◌+◌, ℕ, ℤ, nat_eq, Bool, true, List, filter, find, Option, Some, IsSome}
use Rattle.ft_base.specs.declared.definition.IndexDef.{IndexDef}
use Rattle.ft_base.specs.Docs.{Doc}
use Rattle.ft_machine.specs.Counted.{is_among}
use Rattle.ft_meaning.specs.Sortable.{number_at, sorting_vector}
use Rattle.id_iters.specs.Held.{AreLists, Held}
use Rattle.id_iters.specs.Ready.{Ready}
use Rattle.id_iters.specs.Sets.{in_set}
use Rattle.id_iters.specs.declared.iter.Iter.{Iter}

-- the documents whose ids a set has
abbrev pub docs_in : (ℕ → Bool) → List Doc → List Doc
docs_in has docs = filter (λ (doc : Doc). has doc.id) docs

-- those of the keys that are named, where some are
abbrev pub docs_of : Option (List (List ℕ)) → List Doc → List Doc
docs_of keys docs = filter (λ (doc : Doc). is_among keys doc.key) docs

-- the document with an id
abbrev pub doc_at : ℕ → List Doc → Option Doc
doc_at id docs = find (λ (doc : Doc). nat_eq id doc.id) docs

-- Each id of a set is that of a document.
pub record AreKnown (has : ℕ → Bool) (docs : List Doc) : Type 0 where
  pub stored : (id : ℕ) → has id ≡ true → IsSome (doc_at id docs)

-- The numbers that are known by the id of a document of a set are those of its sorting vector.
pub record AreNumbered (has : ℕ → Bool) (numbers : ℕ → ℕ → Option ℤ) (def : IndexDef) (docs : List Doc) : Type 0 where
  pub kept : (id column : ℕ) (doc : Doc) → has id ≡ true → doc_at id docs ≡ Some doc
      → numbers id column ≡ number_at (sorting_vector def doc) column

-- so are the numbers of what an iterator finds
abbrev pub FindsNumbered : Held → Iter → (ℕ → ℕ → Option ℤ) → IndexDef → List Doc → Type 0
FindsNumbered held iter numbers def docs = AreNumbered (in_set held iter) numbers def docs

-- the documents that an iterator finds
abbrev pub docs_found : Held → Iter → List Doc → List Doc
docs_found held iter docs = docs_in (in_set held iter) docs

-- An iterator may be asked from behind an id on.
pub record IsAskable (held : Held) (iter : Iter) (after : ℕ) : Type 0 where
  pub lists : AreLists held
  pub ready : Ready held iter (after + 1)

-- An iterator may be asked so, and each id that it finds is that of a document.
pub record IsWalkable (held : Held) (iter : Iter) (after : ℕ) (docs : List Doc) : Type 0 where
  pub asked : IsAskable held iter after
  pub known : AreKnown (in_set held iter) docs
