-- What is seen of a document whose entries go into lists.
use Rattle.std.specs.Prelude.{◌≡◌, ℕ, List, [], ◌∷◌, ◌++◌, Bool, false, Option, if◌then◌else◌}
use Rattle.doc_table.specs.Table.{Vector}
use Rattle.ft_base.specs.declared.definition.IndexDef.{IndexDef}
use Rattle.ft_base.specs.Docs.{Doc}
use Rattle.ft_meaning.specs.Sortable.{sorting_vector}
use Rattle.numeric_ranges.specs.Ranges.{Rows}
use Rattle.posting_block.specs.declared.hits.TagHit.{TagHit}
use Rattle.posting_block.specs.declared.hits.TextHit.{TextHit}
use Rattle.term_dict.specs.Tags.{FieldTags, entries_in}
use Rattle.term_dict.specs.Terms.{Lists, entries_of}
use Rattle.ft_index.specs.Entries.{tag_entries, word_entries}
use Rattle.ft_index.specs.Has.{Has, NumbersHave, alive}
use Rattle.ft_index.specs.Lists.{AllLists, has_id, rows_of}

-- what lists have of documents, by the live ids and the documents
abbrev pub Having : Type 1
Having = List (ℕ × Vector) → List Doc → Type 0

-- the live entries of each word are those of just the documents that have it
abbrev pub WordsHave : IndexDef → Lists TextHit → Having
WordsHave def words live docs = (word : List ℕ) → alive live (entries_of words word) ≡ word_entries def word docs

-- those of each field's tag
abbrev pub TagsHave : IndexDef → FieldTags → Having
TagsHave def tags live docs = (field : ℕ) (tag : List ℕ) → alive live (entries_in tags field tag) ≡ tag_entries def field tag docs

-- those of each field's ranges
abbrev pub RangesHaveAll : IndexDef → List (Option Rows) → Having
RangesHaveAll def ranges live docs = (field : ℕ) → NumbersHave def live field docs (rows_of ranges field)

-- what all lists have
abbrev pub ListsHave : IndexDef → AllLists → Having
ListsHave def lists live docs = Has def live lists docs

-- Nothing of an id is seen while it is not live.
abbrev pub IsUnseen : ℕ → Having → Having → Type 0
IsUnseen id old new = (live : List (ℕ × Vector)) (docs : List Doc) → has_id live id ≡ false → old live docs → new live docs

-- the same of tags, and of ranges, whatever the index
abbrev pub TagsUnseen : ℕ → FieldTags → FieldTags → Type 0
TagsUnseen id old new = (def : IndexDef) → IsUnseen id (TagsHave def old) (TagsHave def new)

abbrev pub RangesUnseen : ℕ → List (Option Rows) → List (Option Rows) → Type 0
RangesUnseen id old new = (def : IndexDef) → IsUnseen id (RangesHaveAll def old) (RangesHaveAll def new)

-- Once its id is live, a document is seen beside the others.
abbrev pub IsSeen : IndexDef → Doc → Having → Having → Type 0
IsSeen def doc old new = (live : List (ℕ × Vector)) (docs : List Doc) → old live docs
    → new (live ++ (doc.id, sorting_vector def doc) ∷ []) (docs ++ doc ∷ [])

-- the entry of a tag, where a document has the tag
abbrev pub tag_entry : ℕ → Bool → List (ℕ × TagHit)
tag_entry id has = if has then (id, record {}) ∷ [] else []
