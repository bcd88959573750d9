-- What a table of groups holds while rows come.
use Rattle.std.specs.Prelude.{◌≡◌, ℕ, List, [], ◌∷◌, map, Option, None, Some}
use Rattle.std.specs.Coded.{Coded, coded×, coded_list, coded_option, coded_ℕ}
use Rattle.std.specs.Map.{lookup}
use Rattle.std.specs.Str.{bytes_eq}
use Rattle.std.specs.declared.alloc.Global.{Global}
use Rattle.std.specs.declared.vec.Vec.{Vec}
use Rattle.ft_base.specs.contracts.row.Cell.{the_row as cell_row}
use Rattle.ft_base.specs.declared.definition.IndexDef.{IndexDef}
use Rattle.ft_base.specs.declared.row.Cell.{Cell}
use Rattle.ft_base.specs.declared.row.Row.{Row}
use Rattle.agg_pipeline.specs.declared.state.State.{State}
use Rattle.agg_pipeline.specs.declared.step.Reducer.{Reducer}
use Rattle.agg_pipeline.specs.declared.table.Group.{Group}
use Rattle.agg_pipeline.specs.Equal.{spelled_all}
use Rattle.agg_pipeline.specs.Keyed.{by_key, note}
use Rattle.agg_pipeline.specs.Made.{finished_cells, made_all, starts, states_code, states_step}
use Rattle.agg_pipeline.specs.Grouping.{tuple_cells, tuple_of}
use Rattle.agg_pipeline.specs.Rows.{set_cells}
use Rattle.agg_pipeline.specs.Spellings.{is_kept}

-- What was made of a group's rows: its cells of GROUPBY, as its first row gives them, and of each reducer.
abbrev pub Making : Type 0
Making = Option (List Cell) × List State

-- what was made of each group, under the spelling of its values
abbrev pub Table : Type 0
Table = List (List ℕ × Making)

-- a table is stored as a list of pairs
abbrev pub table_code : Coded Table
table_code =
    coded_list (coded× (coded_list coded_ℕ) (coded× (coded_option (coded_list cell_row.coded)) states_code))

-- the spelling of a row's values
abbrev pub tuple_key : IndexDef → List (List ℕ) → Row → List ℕ
tuple_key def by row = spelled_all (tuple_of def by row)

-- the cells that a group's row begins with
abbrev pub begun_cells : IndexDef → List (List ℕ) → Row → List Cell
begun_cells def by row = set_cells [] (tuple_cells def by row)

-- the first row's cells stay
abbrev pub keep_cells : Option (List Cell) → List Cell → Option (List Cell)
keep_cells None cells = Some cells
keep_cells (Some first) cells = Some first

-- a group, once one more row of it came
abbrev pub add_row : IndexDef → List (List ℕ) → List Reducer → Making → Row → Making
add_row def by reduce group row = (keep_cells group.0 (begun_cells def by row), states_step def reduce group.1 row)

-- a group of no rows
abbrev pub no_rows : List Reducer → Making
no_rows reduce = (None, starts reduce)

-- the table, once one more row came
abbrev pub note_row : IndexDef → List (List ℕ) → List Reducer → Table → Row → Table
note_row def by reduce table row = note bytes_eq (tuple_key def by) (add_row def by reduce) (no_rows reduce) table row

-- ---- the groups of the rows that came

-- the cells of the first row
abbrev pub first_cells : IndexDef → List (List ℕ) → List Row → Option (List Cell)
first_cells def by [] = None
first_cells def by (row ∷ rows) = Some (begun_cells def by row)

-- what is made of a group's rows
abbrev pub making : IndexDef → List (List ℕ) → List Reducer → List Row → Making
making def by reduce rows = (first_cells def by rows, made_all def reduce rows)

-- the table of the rows that came
abbrev pub table_of_rows : IndexDef → List (List ℕ) → List Reducer → List Row → Table
table_of_rows def by reduce rows = by_key bytes_eq (tuple_key def by) (making def by reduce) rows

-- the cells that there are
abbrev pub cells_or_none : Option (List Cell) → List Cell
cells_or_none None = []
cells_or_none (Some cells) = cells

-- a group's row, once no more rows come
abbrev pub finished_row : List Reducer → List ℕ × Making → Row
finished_row reduce entry = record { doc = None; cells = set_cells (cells_or_none entry.1.0) (finished_cells reduce entry.1.1) }

-- ---- as the code keeps it

abbrev pub Kept : Type 0
Kept = List (Vec ℕ Global × Group)

abbrev pub making_of : Group → Making
making_of group = (Some group.cells, group.states)

abbrev pub entry_of : Vec ℕ Global × Group → List ℕ × Making
entry_of entry = (entry.0.items, making_of entry.1)

abbrev pub table_of : Kept → Table
table_of entries = map entry_of entries

-- no group has the spelling
abbrev pub IsNew : List ℕ → Kept → Type 0
IsNew spelling entries = lookup (is_kept spelling) entries ≡ None

-- a group, once one more row of it came
abbrev pub stepped : IndexDef → List Reducer → Group → Row → Group
stepped def reduce group row = record { cells = group.cells; states = states_step def reduce group.states row }

-- what a row that is the first of its group brings
abbrev pub first_entry : IndexDef → List (List ℕ) → List Reducer → Row → List ℕ × Making
first_entry def by reduce row = (tuple_key def by row, (Some (begun_cells def by row), states_step def reduce (starts reduce) row))
