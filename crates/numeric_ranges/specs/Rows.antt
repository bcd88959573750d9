-- What the rows of the code stand for, and what they know of their values.
use Rattle.std.specs.Prelude.{◌≡◌, ◌<◌, ℕ, suc, Bool, true, cond, ℤ, pos, int_le, int_lt, ◌<ℤ◌, List, [], ◌∷◌, map, length, slice_index_or}
use Rattle.std.specs.List.{AllByRecursion, Contains, filter}
use Rattle.posting_block.specs.declared.hits.NumHit.{NumHit}
use Rattle.inverted_list.specs.declared.marker.Markers.{Markers}
use Rattle.inverted_list.specs.Listing.{Listing, filled_list}
use Rattle.gc_splice.specs.Alive.{Without}
use Rattle.numeric_ranges.specs.declared.row.Row.{Row}
use Rattle.numeric_ranges.specs.declared.spread.Spread.{Spread}
use Rattle.numeric_ranges.specs.declared.spread.Spread.TheVariants.{Unknown, Empty, One, Many}
use Rattle.numeric_ranges.specs.Values.{Entries, values, are_mixed, cut_of}
use Rattle.numeric_ranges.specs.Added.{left_half, right_half}
use Rattle.numeric_ranges.specs.Ranges.{Rows, IsPartition, entries_in_rows}

-- the low and the list of each row
abbrev pub rows_of : List Row → Rows
rows_of rows = map (λ row. (row.low, row.list)) rows

-- What a row says of its values is true of its entries.
abbrev pub Knows : Spread → Entries → Type 0
Knows Unknown es = Unit {0}
Knows Empty es = es ≡ []
Knows (One v) es = (0 < length es) × AllByRecursion (λ e. e.1.value ≡ v) es
Knows Many es = are_mixed es ≡ true

-- The second entries are the first without some of them.
abbrev pub IsPart : Entries → Entries → Type 0
IsPart es part = (live : ℕ → Bool) × Without live es part

-- The rows are a partition, and each knows what it says.
pub record Held (rows : List Row) : Type 0 where
  pub partition : IsPartition (rows_of rows)
  pub known : AllByRecursion (λ row. Knows row.spread row.list.entries) rows

-- Such rows with the number of their entries.
pub record Counted (rows : List Row) (count : ℕ) : Type 0 where
  pub held : Held rows
  pub counted : count ≡ entries_in_rows (rows_of rows)

-- how many of the first rows begin at a value or below it
abbrev pub reach : ℤ → Rows → ℕ
reach v [] = 0
reach v (row ∷ rows) = cond (int_le row.0 v) (suc (reach v rows)) 0

-- A cut is one of the values, and above another one.
pub record IsInside (cut : ℤ) (all : List ℤ) : Type 0 where
  pub member : Contains all cut
  pub other : ℤ
  pub among : Contains all other
  pub above : other <ℤ cut

-- The row at an index begins at a low.
pub record IsRowAt (at : ℕ) (low : ℤ) (rows : Rows) : Type 0 where
  pub within : at < length rows
  pub begins : (d : ℤ × Listing NumHit) → (slice_index_or rows at d).0 ≡ low

-- For each entry whether its value is from a cut on.
abbrev pub flags_from : ℤ → Entries → List Bool
flags_from cut es = map (λ value. int_le cut value) (values es)

-- No value is above the greatest number.
abbrev pub AreNumbers : List ℤ → Type 0
AreNumbers all = AllByRecursion (λ value. int_le value (pos 9223372036854775807) ≡ true) all

-- Two rows keep their lows and markers, and have the entries below the right one's low and those from it on.
pub record AreFilled (left right : Row) (es : Entries) (below above : Row) : Type 0 where
  pub low : below.low ≡ left.low
  pub cut : above.low ≡ right.low
  pub left_list : below.list ≡ filled_list left.list.marker (filter (λ e. int_lt e.1.value right.low) es)
  pub right_list : above.list ≡ filled_list right.list.marker (filter (λ e. int_le right.low e.1.value) es)
  pub knows_left : Knows below.spread below.list.entries
  pub knows_right : Knows above.spread above.list.entries

-- Two rows are the halves of one with these entries.
pub record AreHalves (row : Row) (es : Entries) (markers : Markers) (left right : Row) : Type 0 where
  pub low : left.low ≡ row.low
  pub cut : right.low ≡ cut_of (values es)
  pub inside : IsInside (cut_of (values es)) (values es)
  pub left_list : left.list ≡ left_half (cut_of (values es)) es markers
  pub right_list : right.list ≡ right_half (cut_of (values es)) es markers
  pub knows_left : Knows left.spread left.list.entries
  pub knows_right : Knows right.spread right.list.entries
