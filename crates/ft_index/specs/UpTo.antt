-- How the ids of lists rise, and how far they go.
use Rattle.std.specs.Prelude.{◌<◌, ◌≤◌, ℕ, List, Option, IfSome}
use Rattle.std.specs.List.{AllByRecursion}
use Rattle.inverted_list.specs.Listing.{RisesAbove, last_id}
use Rattle.numeric_ranges.specs.Ranges.{IsAbove, Rows}
use Rattle.posting_block.specs.declared.hits.TextHit.{TextHit}
use Rattle.term_dict.specs.Tags.{FieldTags, entries_in}
use Rattle.term_dict.specs.Terms.{Lists, entries_of}
use Rattle.ft_index.specs.Lists.{AllLists, rows_of}

-- The ids of a list's entries rise, from 1 on, and none is above this.
pub record RisesUpTo {P : Type 0} (last : ℕ) (entries : List (ℕ × P)) : Type 0 where
  pub rise : RisesAbove 0 entries
  pub end : last_id 0 entries ≤ last

-- those of each word do
abbrev pub WordsUpTo : ℕ → Lists TextHit → Type 0
WordsUpTo last words = (word : List ℕ) → RisesUpTo last (entries_of words word)

-- those of each field's tag do
abbrev pub TagsUpTo : ℕ → FieldTags → Type 0
TagsUpTo last tags = (field : ℕ) (tag : List ℕ) → RisesUpTo last (entries_in tags field tag)

-- those of each of a field's ranges do
abbrev pub RowsUpTo : ℕ → Rows → Type 0
RowsUpTo last rows = AllByRecursion (λ row. RisesUpTo last row.1.entries) rows

-- those of each range do
abbrev pub RangesUpTo : ℕ → List (Option Rows) → Type 0
RangesUpTo last ranges = (field : ℕ) → IfSome (rows_of ranges field) (RowsUpTo last)

-- In every list the ids rise, and none is above this.
pub record AreUpTo (last : ℕ) (lists : AllLists) : Type 0 where
  pub words : WordsUpTo last lists.words
  pub tags : TagsUpTo last lists.tags
  pub ranges : RangesUpTo last lists.ranges

-- An id is above those of a word's list, so that its entry may come behind them,
abbrev pub IsAboveWord : ℕ → Lists TextHit → List ℕ → Type 0
IsAboveWord id words word = last_id 0 (entries_of words word) < id

-- of the list of a field's tag,
abbrev pub IsAboveTag : ℕ → FieldTags → ℕ → List ℕ → Type 0
IsAboveTag id tags field tag = last_id 0 (entries_in tags field tag) < id

-- of the lists of a field's ranges, where it has them.
abbrev pub IsAboveRows : ℕ → Option Rows → Type 0
IsAboveRows id rows = IfSome rows (IsAbove id)
