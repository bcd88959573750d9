-- How the rows stand for the live documents and the one that waits.
use Rattle.std.specs.Prelude.{◌≡◌, ℕ, ◌+◌, ◌/◌, Option, None, Some, List, nat_eq, is_some}
use Rattle.std.specs.Option.{option_map}
use Rattle.std.specs.Ordering.{nat_cmp}
use Rattle.std.specs.List.Sorted.{IsStrictlySortedBy}
use Rattle.std.specs.Map.{keys_of, lookup}
use Rattle.ft_base.specs.Rows.{Rows, live_rows, AtMost, IsLast}
use Rattle.doc_table.specs.Table.{Table, Vector}
use Rattle.doc_table.specs.declared.page.Page.{Page}
use Rattle.doc_table.specs.Pages.{has_id, Rises}

-- the document that waits
abbrev pub ready_row : Option ℕ → Rows Vector → Option (ℕ × Vector)
ready_row None rows = None
ready_row (Some id) rows = option_map (λ vector. (id, vector)) (lookup (nat_eq id) rows)

-- the table that the rows stand for
abbrev pub table_of : Option ℕ → ℕ → Rows Vector → Table
table_of pending last rows = record { live = live_rows pending rows; ready = ready_row pending rows; last = last }

-- the ids rise, none is above the last, and a document that waits has the last id and a row
pub record IsTable (pending : Option ℕ) (last : ℕ) (rows : Rows Vector) : Type 0 where
  pub ordered : IsStrictlySortedBy nat_cmp (keys_of rows)
  pub bounded : AtMost last rows
  pub waits : IsLast pending last rows

-- an id is in the pages where it has a row, and no page is behind that of the last id
pub record AreMarked (last : ℕ) (ids : List Page) (rows : Rows Vector) : Type 0 where
  pub marks : (id : ℕ) → has_id ids id ≡ is_some (lookup (nat_eq id) rows)
  pub bound : Rises 0 (last / 64 + 1) ids
