-- What each step of an aggregate makes of a list of rows (RediSearch, FT.AGGREGATE), and several steps.
use Rattle.std.specs.Prelude.{ℕ, List, map, filter, fold, take, drop, Bool, false, Option, None, Some}
use Rattle.std.specs.declared.cmp.Ordering.{Ordering}
use Rattle.ft_base.specs.Cells.{cell}
use Rattle.ft_base.specs.declared.definition.IndexDef.{IndexDef}
use Rattle.ft_base.specs.declared.row.Row.{Row}
use Rattle.ft_base.specs.declared.row.Value.{Value}
use Rattle.expr_eval.specs.Meaning.{value_of}
use Rattle.expr_eval.specs.Properties.{property_value}
use Rattle.expr_eval.specs.Values.{is_true, operand_of}
use Rattle.expr_eval.specs.declared.tree.Expr.{Expr}
use Rattle.row_sort.specs.Order.{values_order}
use Rattle.row_sort.specs.Sorting.{sorted}
use Rattle.row_sort.specs.declared.order.Direction.{Direction}
use Rattle.agg_pipeline.specs.declared.step.SortKey.{SortKey}
use Rattle.agg_pipeline.specs.declared.step.Step.{Step}
use Rattle.agg_pipeline.specs.declared.step.Step.TheVariants.{Group, Sort, Apply, Keep, Limit}
use Rattle.agg_pipeline.specs.Grouping.{grouped}
use Rattle.agg_pipeline.specs.Rows.{set_cell}

-- how each key orders; texts are compared by their bytes
abbrev pub directions : List SortKey → List Direction
directions keys = map (λ (key : SortKey). record { descending = key.descending; lower = false }) keys

-- a row's values of the keys
abbrev pub key_values : IndexDef → List SortKey → Row → List Value
key_values def keys row = map (λ (key : SortKey). property_value key.name row def) keys

-- the order of two rows by the keys
abbrev pub keys_order : IndexDef → List SortKey → Row → Row → Ordering
keys_order def keys left right = values_order (directions keys) (key_values def keys left) (key_values def keys right)

-- the first so many, where a number is given
abbrev pub first_rows : Option ℕ → List Row → List Row
first_rows None rows = rows
first_rows (Some most) rows = take most rows

-- a row with a cell for an expression's value
abbrev pub applied : IndexDef → Expr → List ℕ → Row → Row
applied def expr name row = record { doc = row.doc; cells = set_cell row.cells (cell name (value_of expr row def)) }

-- whether an expression is a Num other than 0 in a row
abbrev pub is_kept : IndexDef → Expr → Row → Bool
is_kept def expr row = is_true (operand_of (value_of expr row def))

-- what one step makes of the rows
abbrev pub step_rows : IndexDef → Step → List Row → List Row
step_rows def (Group by reduce) rows = grouped def by reduce rows
step_rows def (Sort keys max) rows = first_rows max (sorted (keys_order def keys) rows)
step_rows def (Apply expr name) rows = map (applied def expr name) rows
step_rows def (Keep expr) rows = filter (is_kept def expr) rows
step_rows def (Limit offset num) rows = take num (drop offset rows)

-- what the steps make of the rows, one after another
abbrev pub piped : IndexDef → List Step → List Row → List Row
piped def steps rows = fold (λ rows step. step_rows def step rows) rows steps
