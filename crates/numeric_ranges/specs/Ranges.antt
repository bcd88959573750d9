-- What a contract sees of the ranges of a field: rows of a low and a posting list.
use Rattle.std.specs.Prelude.{◌≡◌, ◌<◌, ℕ, suc, zero, Bool, true, false, ◌&&◌, ℤ, negsuc, int_le, int_lt, List, [], ◌∷◌, Option, None, Some, IsTrue, length, sum_by}
use Rattle.std.specs.List.{AllByRecursion, filter}
use Rattle.std.specs.Map.{lookup, set_value}
use Rattle.std.specs.Ordering.{int_eq}
use Rattle.posting_block.specs.declared.hits.NumHit.{NumHit}
use Rattle.inverted_list.specs.Listing.{Listing, RisesAbove, last_id}
use Rattle.numeric_ranges.specs.Values.{Entries}

-- the ranges: where each begins, and its entries
abbrev pub Rows : Type 0
Rows = List (ℤ × Listing NumHit)

-- the low of the first row, where there is one
abbrev pub low_of : Rows → Option ℤ
low_of [] = None
low_of (row ∷ rows) = Some row.0

-- how many entries all rows have together
abbrev pub entries_in_rows : Rows → ℕ
entries_in_rows rows = sum_by (λ row. length row.1.entries) rows

-- whether a value is below a bound, as each is where there is no bound
abbrev pub is_below : Option ℤ → ℤ → Bool
is_below None v = true
is_below (Some bound) v = int_lt v bound

-- whether a value lies in a row with this low, before a row with that one
abbrev pub lies_in : ℤ → Option ℤ → ℤ → Bool
lies_in low next v = int_le low v && is_below next v

-- the list of the row that begins at a low, where one does
abbrev pub list_at : Rows → ℤ → Option (Listing NumHit)
list_at rows low = lookup (int_eq low) rows

-- the rows with this list in the row that begins at a low, where one does
abbrev pub with_list : Rows → ℤ → Listing NumHit → Rows
with_list rows low list = set_value (int_eq low) rows list

-- Each row has the entries of a list whose values lie in it, in their order.
abbrev pub AreParted : Entries → Rows → Type 0
AreParted es [] = Unit {0}
AreParted es (row ∷ rows) =
    (row.1.entries ≡ filter (λ e. lies_in row.0 (low_of rows) e.1.value) es) × AreParted es rows

-- The lows rise.
abbrev pub LowsRise : Rows → Type 0
LowsRise [] = Unit {0}
LowsRise (row ∷ rows) = IsTrue (is_below (low_of rows) row.0) × LowsRise rows

-- Each entry of a row lies in it.
abbrev pub EntriesLie : Rows → Type 0
EntriesLie [] = Unit {0}
EntriesLie (row ∷ rows) =
    AllByRecursion (λ e. IsTrue (lies_in row.0 (low_of rows) e.1.value)) row.1.entries × EntriesLie rows

-- The first row begins at the least number, lows and ids rise, and each entry lies in its row.
pub record IsPartition (rows : Rows) : Type 0 where
  pub first : low_of rows ≡ Some (negsuc 9223372036854775807)
  pub lows : LowsRise rows
  pub ids : AllByRecursion (λ row. RisesAbove 0 row.1.entries) rows
  pub lie : EntriesLie rows

-- An id is above those of each row.
abbrev pub IsAbove : ℕ → Rows → Type 0
IsAbove id rows = AllByRecursion (λ row. last_id 0 row.1.entries < id) rows

-- whether some number from `low` to `high` lies in the row at an index
abbrev pub meets : Rows → ℕ → ℤ → ℤ → Bool
meets [] i low high = false
meets (row ∷ rows) zero low high = int_le low high && int_le row.0 high && is_below (low_of rows) low
meets (row ∷ rows) (suc i) low high = meets rows i low high
