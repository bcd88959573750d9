-- How the lists of an index stand for documents.
use Rattle.std.specs.Prelude.{◌≡◌, ℕ, List, map, filter, true, false, Option, Some, None, slice_get}
use Rattle.doc_table.specs.Table.{Vector}
use Rattle.ft_base.specs.declared.definition.IndexDef.{IndexDef}
use Rattle.ft_base.specs.Docs.{Doc}
use Rattle.ft_meaning.specs.Sortable.{sorting_vector}
use Rattle.numeric_ranges.specs.Ranges.{AreParted, IsPartition, Rows}
use Rattle.numeric_ranges.specs.Values.{Entries}
use Rattle.term_dict.specs.Tags.{entries_in}
use Rattle.term_dict.specs.Terms.{entries_of}
use Rattle.ft_index.specs.Entries.{is_ranged, number_entries, tag_entries, word_entries}
use Rattle.ft_index.specs.Lists.{AllLists, has_id, rows_of}

-- the entries whose documents are live
abbrev pub alive : {P : Type 0} → List (ℕ × Vector) → List (ℕ × P) → List (ℕ × P)
alive live entries = filter (λ e. has_id live e.0) entries

-- The ranges are a partition of the numbers, from -2^63 on. They part some entries, so that each lies in the one range of its
-- number, and the live ones of these are those of the documents that have a number, one for each.
pub record RangesHave (def : IndexDef) (live : List (ℕ × Vector)) (field : ℕ) (docs : List Doc) (rows : Rows) : Type 0 where
  pub ranged : is_ranged (slice_get def.fields field) ≡ true
  pub partition : IsPartition rows
  pub entries : Entries
  pub parted : AreParted entries rows
  pub same : alive live entries ≡ number_entries def field docs

-- A field has ranges where queries search its numbers, and nowhere else.
abbrev pub NumbersHave : IndexDef → List (ℕ × Vector) → ℕ → List Doc → Option Rows → Type 0
NumbersHave def live field docs None = is_ranged (slice_get def.fields field) ≡ false
NumbersHave def live field docs (Some rows) = RangesHave def live field docs rows

-- These documents, and no others, are live, each with its sorting vector, and the live entries of each word, of each tag and of each field's ranges
-- are those of just the documents that have the word, the tag, a number.
pub record Has (def : IndexDef) (rows : List (ℕ × Vector)) (lists : AllLists) (docs : List Doc) : Type 0 where
  pub live : rows ≡ map (λ (doc : Doc). (doc.id, sorting_vector def doc)) docs
  pub words : (word : List ℕ) → alive rows (entries_of lists.words word) ≡ word_entries def word docs
  pub tags : (field : ℕ) (tag : List ℕ) → alive rows (entries_in lists.tags field tag) ≡ tag_entries def field tag docs
  pub numbers : (field : ℕ) → NumbersHave def rows field docs (rows_of lists.ranges field)
