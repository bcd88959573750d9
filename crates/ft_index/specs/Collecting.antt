-- Lists from which the dead entries are taken out in turn.
use Rattle.std.specs.Prelude.{◌≡◌, ◌||◌, ℕ, ℤ, List, Bool, true, IfSome, nat_eq}
use Rattle.std.specs.List.{AllByRecursion, list_any}
use Rattle.std.specs.Ordering.{int_eq}
use Rattle.std.specs.Str.{bytes_eq}
use Rattle.gc_splice.specs.Alive.{all_alive}
use Rattle.numeric_ranges.specs.Ranges.{Rows, list_at}
use Rattle.term_dict.specs.Tags.{FieldTags, entries_in}
use Rattle.term_dict.specs.Terms.{Lists, entries_of}

-- The list of each word has no dead entry, but for those of some words.
abbrev pub LiveBut : {P : Type 0} → (ℕ → Bool) → List (List ℕ) → Lists P → Type 0
LiveBut live words lists = (word : List ℕ) → (all_alive live (entries_of lists word) || list_any (bytes_eq word) words) ≡ true

-- the same, word by word
abbrev pub RowsLiveBut : {P : Type 0} → (ℕ → Bool) → List (List ℕ) → Lists P → Type 0
RowsLiveBut live words rows = AllByRecursion (λ row. (all_alive live row.1.entries || list_any (bytes_eq row.0) words) ≡ true) rows

-- the same of tags, but for those of some fields
abbrev pub TagsLiveBut : (ℕ → Bool) → List ℕ → FieldTags → Type 0
TagsLiveBut live fields tags = (field : ℕ) (tag : List ℕ) → (all_alive live (entries_in tags field tag) || list_any (nat_eq field) fields) ≡ true

-- the same of a field's ranges, but for those of some lows
abbrev pub LowsLiveBut : (ℕ → Bool) → List ℤ → Rows → Type 0
LowsLiveBut live lows rows = (low : ℤ) → IfSome (list_at rows low) (λ l. (all_alive live l.entries || list_any (int_eq low) lows) ≡ true)

-- the same, range by range
abbrev pub RangesLiveBut : (ℕ → Bool) → List ℤ → Rows → Type 0
RangesLiveBut live lows rows = AllByRecursion (λ row. (all_alive live row.1.entries || list_any (int_eq row.0) lows) ≡ true) rows
