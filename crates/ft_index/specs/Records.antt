-- How many records an index has: the entries of all its lists.
use Rattle.std.specs.Prelude.{◌≡◌, ◌≤◌, ℕ, ◌+◌, List, Option, Some, None, IfSome, sum_by}
use Rattle.doc_table.specs.Table.{Vector}
use Rattle.ft_base.specs.declared.definition.IndexDef.{IndexDef}
use Rattle.ft_base.specs.Docs.{Doc}
use Rattle.ft_meaning.specs.Records.{live_records}
use Rattle.numeric_ranges.specs.Ranges.{Rows, entries_in_rows}
use Rattle.term_dict.specs.Tags.{entries_in_fields}
use Rattle.term_dict.specs.Terms.{entries_in_all}
use Rattle.ft_index.specs.Has.{Has}
use Rattle.ft_index.specs.Lists.{AllLists, has_id}
use Rattle.ft_index.specs.Thinned.{ListsLive}

-- how many entries the ranges of a field have together, where it has ranges
abbrev pub entries_in_slot : Option Rows → ℕ
entries_in_slot None = 0
entries_in_slot (Some rows) = entries_in_rows rows

-- how many the ranges of all fields have
abbrev pub entries_in_ranges : List (Option Rows) → ℕ
entries_in_ranges ranges = sum_by entries_in_slot ranges

-- the entries of all lists, of live documents or not
abbrev pub all_entries : AllLists → ℕ
all_entries lists = entries_in_all lists.words + entries_in_fields lists.tags + entries_in_ranges lists.ranges

-- a number counts the live records at least, of whatever documents the lists have
abbrev pub CountsLive : AllLists → Option ℕ → Type 0
CountsLive lists count = (def : IndexDef) (live : List (ℕ × Vector)) (docs : List Doc) → Has def live lists docs → IfSome count (λ n. live_records def docs ≤ n)

-- a number counts just the live records, where no list has a dead entry
abbrev pub CountsJust : AllLists → Option ℕ → Type 0
CountsJust lists count = (def : IndexDef) (live : List (ℕ × Vector)) (docs : List Doc) → Has def live lists docs → ListsLive (has_id live) lists → IfSome count (λ n. n ≡ live_records def docs)
