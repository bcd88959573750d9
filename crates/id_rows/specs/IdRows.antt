-- Which things the rows have, and at which places.
use Rattle.std.specs.Prelude.{◌≡◌, ◌<◌, ◌≤◌, ◌+◌, ℕ, Bool, true, false, Option, None, Some, List, [], ◌∷◌, length, slice_index_or}
use Rattle.ft_base.specs.Rows.{Rows}
use Rattle.id_rows.specs.declared.row.Row.{Row}
use Rattle.id_rows.specs.declared.row.Row.TheVariants.{Full, Empty}

-- the id of a row, which it keeps once its thing is gone
abbrev pub row_id : {T : Type 0} → (T → ℕ) → Row T → ℕ
row_id id_of (Full thing) = id_of thing
row_id id_of (Empty id) = id

-- its thing
abbrev pub thing_of : {T : Type 0} → Row T → Option T
thing_of (Full thing) = Some thing
thing_of (Empty id) = None

abbrev pub is_empty_row : {T : Type 0} → Row T → Bool
is_empty_row (Full thing) = false
is_empty_row (Empty id) = true

-- the things that are there, by their ids
abbrev pub full_rows : {T : Type 0} → (T → ℕ) → List (Row T) → Rows T
full_rows id_of [] = []
full_rows id_of (Full thing ∷ rows) = (id_of thing, thing) ∷ full_rows id_of rows
full_rows id_of (Empty id ∷ rows) = full_rows id_of rows

-- ids rise, from `low` on
abbrev pub Rise : {T : Type 0} → (T → ℕ) → ℕ → List (Row T) → Type 0
Rise id_of low [] = Unit {0}
Rise id_of low (row ∷ rows) = (low ≤ row_id id_of row) × Rise id_of (row_id id_of row + 1) rows

-- the row at a place, and its id
abbrev pub row_at_place : {T : Type 0} → List (Row T) → ℕ → Row T
row_at_place rows place = slice_index_or rows place (Empty 0)

abbrev pub place_id : {T : Type 0} → (T → ℕ) → List (Row T) → ℕ → ℕ
place_id id_of rows place = row_id id_of (row_at_place rows place)

-- ids rise, and the full rows are counted
pub record AreIdRows {T : Type 0} (id_of : T → ℕ) (full : ℕ) (rows : List (Row T)) : Type 0 where
  pub rise : Rise id_of 0 rows
  pub counted : full ≡ length (full_rows id_of rows)

-- All rows before the place of an id have lower ids, and no row from there on has.
pub record IsPlace {T : Type 0} (id_of : T → ℕ) (id : ℕ) (rows : List (Row T)) (place : ℕ) : Type 0 where
  pub within : place ≤ length rows
  pub below : (k : ℕ) → k < place → place_id id_of rows k < id
  pub above : (k : ℕ) → place ≤ k → k < length rows → id ≤ place_id id_of rows k

-- What is known of the place of an id: it is above one place and not above another, whose ids are known.
pub record IsSpan {T : Type 0} (id_of : T → ℕ) (id : ℕ) (rows : List (Row T)) (below below_id above above_id : ℕ) : Type 0 where
  pub order : below < above
  pub within : above < length rows
  pub below_is : below_id ≡ place_id id_of rows below
  pub above_is : above_id ≡ place_id id_of rows above
  pub less : below_id < id
  pub most : id ≤ above_id
