-- Rows with the values that they are ordered by, as the code sorts them.
use Rattle.std.specs.Prelude.{◌≡◌, ℕ, List, [], ◌∷◌, ◌++◌, map, fold, take, Option, None, Some}
use Rattle.ft_base.specs.declared.definition.IndexDef.{IndexDef}
use Rattle.ft_base.specs.declared.row.Row.{Row}
use Rattle.row_sort.specs.First.{First}
use Rattle.row_sort.specs.Order.{row_order}
use Rattle.row_sort.specs.Sorting.{sorted}
use Rattle.row_sort.specs.declared.order.Direction.{Direction}
use Rattle.row_sort.specs.declared.rows.Ranked.{Ranked}
use Rattle.agg_pipeline.specs.declared.step.SortKey.{SortKey}
use Rattle.agg_pipeline.specs.Steps.{directions, key_values, keys_order}

-- a row with its values of the keys
abbrev pub ranked : IndexDef → List SortKey → Row → Ranked Row
ranked def keys row = record { values = key_values def keys row; item = row }

-- the rows without their values
abbrev pub items_of : List (Ranked Row) → List Row
items_of rows = map (λ (r : Ranked Row). r.item) rows

-- the first rows, once one more came
abbrev pub one_more : List Direction → ℕ → List (Ranked Row) → Ranked Row → List (Ranked Row)
one_more by most first row = take most (sorted (row_order by) (first ++ row ∷ []))

-- the first rows, once several more came one by one
abbrev pub offered : List Direction → ℕ → List (Ranked Row) → List (Ranked Row) → List (Ranked Row)
offered by most first rows = fold (one_more by most) first rows

-- ---- the first rows of a SORTBY with MAX, as rows come

-- no row came
abbrev pub no_rows : List SortKey → ℕ → First Row
no_rows keys most = record { by = directions keys; most = most; rows = [] }

-- the first of the rows in order, with their values
abbrev pub first_of : IndexDef → List SortKey → ℕ → List Row → First Row
first_of def keys most rows = record { by = directions keys; most = most; rows = map (ranked def keys) (take most (sorted (keys_order def keys) rows)) }

-- These are the first of the rows that came. Nothing is held before the first row comes.
abbrev pub AreFirst : IndexDef → List SortKey → ℕ → List Row → Option (First Row) → Type 0
AreFirst def keys most rows None = rows ≡ []
AreFirst def keys most rows (Some first) = first ≡ first_of def keys most rows

-- the rows that are held, without their values
abbrev pub rows_held : Option (First Row) → List Row
rows_held None = []
rows_held (Some first) = items_of first.rows
