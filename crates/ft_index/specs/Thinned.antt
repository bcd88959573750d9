-- Lists that lose entries of ids that are not live, and nothing else.
use Rattle.std.specs.Prelude.{◌≡◌, ℕ, ℤ, List, [], ◌∷◌, Bool, true, Option, None, Some, IfSome}
use Rattle.gc_splice.specs.Alive.{Without, all_alive}
use Rattle.numeric_ranges.specs.Ranges.{Rows}
use Rattle.posting_block.specs.declared.hits.TextHit.{TextHit}
use Rattle.term_dict.specs.Tags.{FieldTags, entries_in}
use Rattle.term_dict.specs.Terms.{Lists, entries_of}
use Rattle.ft_index.specs.Lists.{AllLists, list_from, rows_of}

-- The list of each word has its entries but for some of ids that are not live.
abbrev pub WordsThin : (ℕ → Bool) → Lists TextHit → Lists TextHit → Type 0
WordsThin live old new = (word : List ℕ) → Without live (entries_of old word) (entries_of new word)

-- the list of each field's tag
abbrev pub TagsThin : (ℕ → Bool) → FieldTags → FieldTags → Type 0
TagsThin live old new = (field : ℕ) (tag : List ℕ) → Without live (entries_in old field tag) (entries_in new field tag)

-- the lists of a field's ranges, which begin where they began
abbrev pub RowsThin : (ℕ → Bool) → Rows → Rows → Type 0
RowsThin live [] [] = Unit {0}
RowsThin live [] (new ∷ news) = ⊥
RowsThin live (old ∷ olds) [] = ⊥
RowsThin live (old ∷ olds) (new ∷ news) = (new.0 ≡ old.0) × Without live old.1.entries new.1.entries × RowsThin live olds news

-- the same where a field has ranges
abbrev pub SlotThins : (ℕ → Bool) → Option Rows → Option Rows → Type 0
SlotThins live None new = new ≡ None
SlotThins live (Some old) None = ⊥
SlotThins live (Some old) (Some new) = RowsThin live old new

-- the lists of the ranges of each field
abbrev pub RangesThin : (ℕ → Bool) → List (Option Rows) → List (Option Rows) → Type 0
RangesThin live old new = (field : ℕ) → SlotThins live (rows_of old field) (rows_of new field)

-- all lists
pub record ListsThin (live : ℕ → Bool) (old new : AllLists) : Type 0 where
  pub words : WordsThin live old.words new.words
  pub tags : TagsThin live old.tags new.tags
  pub ranges : RangesThin live old.ranges new.ranges

-- Each entry of each word is of a live id,
abbrev pub WordsLive : (ℕ → Bool) → Lists TextHit → Type 0
WordsLive live words = (word : List ℕ) → all_alive live (entries_of words word) ≡ true

-- of each field's tag,
abbrev pub TagsLive : (ℕ → Bool) → FieldTags → Type 0
TagsLive live tags = (field : ℕ) (tag : List ℕ) → all_alive live (entries_in tags field tag) ≡ true

-- and of each range.
abbrev pub RowsLive : (ℕ → Bool) → Option Rows → Type 0
RowsLive live rows = (low : ℤ) → IfSome (list_from rows low) (λ l. all_alive live l.entries ≡ true)

abbrev pub RangesLive : (ℕ → Bool) → List (Option Rows) → Type 0
RangesLive live ranges = (field : ℕ) → RowsLive live (rows_of ranges field)

-- Each entry of each list is of a live id.
pub record ListsLive (live : ℕ → Bool) (lists : AllLists) : Type 0 where
  pub words : WordsLive live lists.words
  pub tags : TagsLive live lists.tags
  pub ranges : RangesLive live lists.ranges
