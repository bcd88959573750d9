-- What holds of the rows that a `FirstRows` holds. No public clause cites this file.
use Rattle.std.specs.Prelude.{◌≡◌, ℕ, ◌<◌, ◌≤◌, ◌*◌, ◌-◌, Bool, true, false, List, length, take, slice_index_or}
use Rattle.std.specs.List.{AllByRecursion}
use Rattle.std.specs.Ordering.{is_lt}
use Rattle.row_sort.specs.Order.{row_order}
use Rattle.row_sort.specs.Sorting.{sorted}
use Rattle.row_sort.specs.declared.order.Direction.{Direction}
use Rattle.row_sort.specs.declared.rows.Ranked.{Ranked}

-- the first of them, in order
abbrev pub first_held : {T : Type 0} → List Direction → ℕ → List (Ranked T) → List (Ranked T)
first_held by most rows = take most (sorted (row_order by) rows)

-- the row at `most - 1` is before none of the first, and these are as many as may be
pub record HasBar {T : Type 0} (by : List Direction) (most : ℕ) (rows : List (Ranked T)) : Type 0 where
  pub some : 0 < most
  pub enough : most ≤ length rows
  pub behind : (d : Ranked T)
      → AllByRecursion (λ row. is_lt (row_order by (slice_index_or rows (most - 1) d) row) ≡ false) (first_held by most rows)

-- they are at most twice as many, and where they were put in order once there is a bar
pub record IsSound {T : Type 0} (by : List Direction) (most : ℕ) (barred : Bool) (rows : List (Ranked T)) : Type 0 where
  pub few : length rows ≤ 2 * most
  pub bar : barred ≡ true → HasBar by most rows
