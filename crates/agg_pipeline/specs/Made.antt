-- What reducers made of the values so far, and what they give in the end.
use Rattle.std.specs.Prelude.{ℕ, pos, ◌+◌, List, [], ◌∷◌, length, map, Option, None, Some, unwrap_or, if◌then◌else◌}
use Rattle.std.specs.Coded.{Coded, coded_list}
use Rattle.std.specs.Str.{bytes_eq}
use Rattle.ft_base.specs.Cells.{cell}
use Rattle.ft_base.specs.declared.definition.IndexDef.{IndexDef}
use Rattle.ft_base.specs.declared.row.Cell.{Cell}
use Rattle.ft_base.specs.declared.row.Row.{Row}
use Rattle.ft_base.specs.declared.row.Value.{Value}
use Rattle.ft_base.specs.declared.row.Value.TheVariants as value
use Rattle.expr_eval.specs.Values.{num_or_null, whole}
use Rattle.agg_pipeline.specs.contracts.state.State.{the_row as state_row}
use Rattle.agg_pipeline.specs.declared.state.State.{State}
use Rattle.agg_pipeline.specs.declared.state.State.TheVariants as so_far
use Rattle.agg_pipeline.specs.declared.step.ReduceKind.{ReduceKind}
use Rattle.agg_pipeline.specs.declared.step.ReduceKind.TheVariants as kind
use Rattle.agg_pipeline.specs.declared.step.Reducer.{Reducer}
use Rattle.agg_pipeline.specs.Equal.{spelled, value_eq}
use Rattle.agg_pipeline.specs.Keyed.{add_first}
use Rattle.agg_pipeline.specs.Grouping.{value_for}
use Rattle.agg_pipeline.specs.Reduce.{added, distinct, greater, greatest, is_some_value, least, lesser, number, sum_of}
use Rattle.agg_pipeline.specs.Rows.{set_cell}

-- the first of some values
abbrev pub first_of : List Value → Option Value
first_of [] = None
first_of (v ∷ values) = Some v

-- what was made of the values so far
abbrev pub made : ReduceKind → List Value → State
made kind.Count values = so_far.Count (length values)
made kind.CountDistinct values = so_far.Differing (map spelled (distinct values))
made kind.Sum values = so_far.Sum (sum_of values)
made kind.Min values = so_far.Least (least values)
made kind.Max values = so_far.Greatest (greatest values)
made kind.ToList values = so_far.Many (distinct values)
made kind.FirstValue values = so_far.First (first_of values)

-- what a reducer gives in the end
abbrev pub finished : State → Value
finished (so_far.Count n) = value.Num (pos n)
finished (so_far.Differing spellings) = value.Num (pos (length spellings))
finished (so_far.Sum n) = num_or_null (whole n)
finished (so_far.Least n) = num_or_null n
finished (so_far.Greatest n) = num_or_null n
finished (so_far.Many values) = value.List values
finished (so_far.First v) = unwrap_or v value.Null

-- ---- as values come

-- what was made of no values
abbrev pub start : ReduceKind → State
start kind.Count = so_far.Count 0
start kind.CountDistinct = so_far.Differing []
start kind.Sum = so_far.Sum (pos 0)
start kind.Min = so_far.Least None
start kind.Max = so_far.Greatest None
start kind.ToList = so_far.Many []
start kind.FirstValue = so_far.First None

-- a value that isn't Null goes last, where it is not there
abbrev pub add_value : List Value → Value → List Value
add_value values v = if is_some_value v then add_first value_eq values v else values

-- the same of the spellings of values
abbrev pub add_spelling : List (List ℕ) → Value → List (List ℕ)
add_spelling spellings v = if is_some_value v then add_first bytes_eq spellings (spelled v) else spellings

-- the first value stays
abbrev pub keep_first : Option Value → Value → Option Value
keep_first None v = Some v
keep_first (Some first) v = Some first

-- what was made, once one more value came
abbrev pub step : State → Value → State
step (so_far.Count n) v = so_far.Count (n + 1)
step (so_far.Differing spellings) v = so_far.Differing (add_spelling spellings v)
step (so_far.Sum sum) v = so_far.Sum (added sum v)
step (so_far.Least n) v = so_far.Least (lesser n (number v))
step (so_far.Greatest n) v = so_far.Greatest (greater n (number v))
step (so_far.Many values) v = so_far.Many (add_value values v)
step (so_far.First first) v = so_far.First (keep_first first v)

-- ---- several reducers

abbrev pub ListOfStates : Type 0
ListOfStates = List State

-- they are stored as a list
abbrev pub states_code : Coded ListOfStates
states_code = coded_list state_row.coded

-- what the reducers made of the rows
abbrev pub made_all : IndexDef → List Reducer → List Row → List State
made_all def reduce rows = map (λ (r : Reducer). made r.kind (map (value_for def r.of) rows)) reduce

-- what they made of no rows
abbrev pub starts : List Reducer → List State
starts reduce = map (λ (r : Reducer). start r.kind) reduce

-- what they made, once one more row came
abbrev pub states_step : IndexDef → List Reducer → List State → Row → List State
states_step def [] states row = states
states_step def (r ∷ rs) [] row = []
states_step def (r ∷ rs) (state ∷ states) row = step state (value_for def r.of row) ∷ states_step def rs states row

-- the cells of what they give in the end
abbrev pub finished_cells : List Reducer → List State → List Cell
finished_cells reduce [] = []
finished_cells [] (state ∷ states) = []
finished_cells (r ∷ rs) (state ∷ states) = cell r.name (finished state) ∷ finished_cells rs states

-- the cell of what the first reducer gives
abbrev pub set_finished : List Cell → List Reducer → State → List Cell
set_finished cells [] state = cells
set_finished cells (r ∷ rs) state = set_cell cells (cell r.name (finished state))
