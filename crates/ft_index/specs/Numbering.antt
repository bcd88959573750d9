-- How the ranges of fields are made, and how the numbers of a document go into them.
use Rattle.std.specs.Prelude.{◌≡◌, ℕ, ℤ, List, [], ◌∷◌, ◌++◌, true, false, Option, Some, None, slice_get}
use Rattle.ft_base.specs.declared.definition.Field.{Field}
use Rattle.ft_base.specs.Docs.{Doc}
use Rattle.numeric_ranges.specs.Ranges.{AreParted, IsPartition, Rows}
use Rattle.numeric_ranges.specs.Values.{Entries}
use Rattle.ft_index.specs.Entries.{is_ranged, searched_number}
use Rattle.ft_index.specs.Lists.{rows_of}
use Rattle.ft_index.specs.UpTo.{RowsUpTo}

-- ranges without entries where a field has ranges, and none where it has none
abbrev pub IsFirst : Option Field → Option Rows → Type 0
IsFirst field None = is_ranged field ≡ false
IsFirst field (Some rows) = (is_ranged field ≡ true) × IsPartition rows × AreParted [] rows × RowsUpTo 0 rows

-- the entry of a number, where there is a number
abbrev pub value_entry : ℕ → Option ℤ → Entries
value_entry id None = []
value_entry id (Some value) = (id, record { value = value }) ∷ []

-- Ranges are a partition now, and where they were of some entries they are of these and more. A field without ranges has none.
abbrev pub RowsGain : Entries → Option Rows → Option Rows → Type 0
RowsGain more None new = new ≡ None
RowsGain more (Some old) None = ⊥
RowsGain more (Some old) (Some new) = IsPartition new × ((es : Entries) → AreParted es old → AreParted (es ++ more) new)

-- A field's ranges get the number of a document, where there is the field and it has one.
abbrev pub FieldGains : Option Field → Doc → Option Rows → Option Rows → Type 0
FieldGains None doc old new = new ≡ old
FieldGains (Some field) doc old new = RowsGain (value_entry doc.id (searched_number (Some field) doc)) old new

-- the ranges of each of some fields get a document's number
abbrev pub RangesGain : List Field → Doc → List (Option Rows) → List (Option Rows) → Type 0
RangesGain fields doc old new = (number : ℕ) → FieldGains (slice_get fields number) doc (rows_of old number) (rows_of new number)
