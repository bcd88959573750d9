-- What GROUPBY makes of rows (RediSearch, FT.AGGREGATE): one row for each group.
use Rattle.std.specs.Prelude.{ℕ, List, [], ◌∷◌, ◌++◌, map, Bool, Option, None, Some}
use Rattle.ft_base.specs.Cells.{cell}
use Rattle.ft_base.specs.declared.definition.IndexDef.{IndexDef}
use Rattle.ft_base.specs.declared.row.Cell.{Cell}
use Rattle.ft_base.specs.declared.row.Row.{Row}
use Rattle.ft_base.specs.declared.row.Value.{Value}
use Rattle.ft_base.specs.declared.row.Value.TheVariants.{Null}
use Rattle.expr_eval.specs.Properties.{property_value}
use Rattle.agg_pipeline.specs.declared.step.Reducer.{Reducer}
use Rattle.agg_pipeline.specs.Equal.{values_eq}
use Rattle.agg_pipeline.specs.Groups.{groups}
use Rattle.agg_pipeline.specs.Reduce.{reduced}
use Rattle.agg_pipeline.specs.Rows.{set_cells}

-- a row's value of the reducer's property, and Null where it has none
abbrev pub value_for : IndexDef → Option (List ℕ) → Row → Value
value_for def None row = Null
value_for def (Some name) row = property_value name row def

-- a row's values of several properties
abbrev pub tuple_of : IndexDef → List (List ℕ) → Row → List Value
tuple_of def by row = map (λ name. property_value name row def) by

-- whether two rows have equal values of all these properties
abbrev pub same_tuple : IndexDef → List (List ℕ) → Row → Row → Bool
same_tuple def by left right = values_eq (tuple_of def by left) (tuple_of def by right)

-- a row's cells of several properties, Null included
abbrev pub tuple_cells : IndexDef → List (List ℕ) → Row → List Cell
tuple_cells def by row = map (λ name. cell name (property_value name row def)) by

-- those of a group, which its first row has as well as each other
abbrev pub group_cells : IndexDef → List (List ℕ) → List Row → List Cell
group_cells def by [] = []
group_cells def by (row ∷ rows) = tuple_cells def by row

-- the cells of the reducers
abbrev pub reduced_cells : IndexDef → List Reducer → List Row → List Cell
reduced_cells def reduce rows = map (λ (r : Reducer). cell r.name (reduced r.kind (map (value_for def r.of) rows))) reduce

-- a group's row: the properties of GROUPBY, then what the reducers give, and no document
abbrev pub group_row : IndexDef → List (List ℕ) → List Reducer → List Row → Row
group_row def by reduce rows = record { doc = None; cells = set_cells [] (group_cells def by rows ++ reduced_cells def reduce rows) }

-- one row for each group, in order of first appearance; no row where there are none
abbrev pub grouped : IndexDef → List (List ℕ) → List Reducer → List Row → List Row
grouped def by reduce rows = map (group_row def by reduce) (groups (same_tuple def by) rows)
