-- The words of each step of FT.AGGREGATE, behind the step's name (RediSearch).
use Rattle.std.specs.Prelude.{ℕ, List, [], ◌∷◌, ◌++◌, length, Bool, true, false, nat_le, ◌==◌, ◌&&◌, Option, Some, None, Result, Ok, Err, codes, if◌then◌else◌}
use Rattle.ft_base.specs.Names.{is_name}
use Rattle.ft_base.specs.Reading.{◌>>=◌, parts_at}
use Rattle.agg_pipeline.specs.declared.step.Load.{Load}
use Rattle.agg_pipeline.specs.declared.step.Load.TheVariants.{All, Fields}
use Rattle.agg_pipeline.specs.declared.step.ReduceKind.{ReduceKind}
use Rattle.agg_pipeline.specs.declared.step.ReduceKind.TheVariants as kind
use Rattle.agg_pipeline.specs.declared.step.Reducer.{Reducer}
use Rattle.agg_pipeline.specs.declared.step.SortKey.{SortKey}
use Rattle.agg_pipeline.specs.declared.step.Step.{Step}
use Rattle.agg_pipeline.specs.declared.step.Step.TheVariants.{Apply, Group, Keep, Limit, Sort}
use Rattle.cmd_parse.specs.AggregateNames.{reducer_name, reducer_of}
use Rattle.cmd_parse.specs.AggregateWords.{are_behind, as_at, count_at, counted_names, expression_at, named_at}
use Rattle.cmd_parse.specs.Options.{direction_at, is_as, window_at}
use Rattle.cmd_parse.specs.Words.{Word, Read, fault, word_at, number_at}
use Rattle.cmd_parse.specs.declared.aggregate_names.NameForm.TheVariants as form
use Rattle.cmd_parse.specs.declared.aggregate_names.StepName.{StepName}
use Rattle.cmd_parse.specs.declared.aggregate_names.StepName.TheVariants as step
use Rattle.cmd_parse.specs.declared.stop.Cause.{Cause}
use Rattle.cmd_parse.specs.declared.stop.Cause.TheVariants.{Syntax}

-- LOAD: `*`, or a number and so many names
abbrev pub is_star : Word → Bool
is_star word = is_name word (codes "*")

unfoldable pub load_at : List Word → Read Load
load_at [] = fault Syntax []
load_at (word ∷ words) =
    if is_star word then Ok (All, words) else (counted_names form.Loaded (word ∷ words) >>= λ names. Ok (Fields names.0, names.1))

-- REDUCE: the reducer
abbrev pub kind_with : Result ReduceKind Cause → List Word → List Word → Read ReduceKind
kind_with (Ok kind) from words = Ok (kind, words)
kind_with (Err cause) from words = fault cause from

abbrev pub kind_at : List Word → Read ReduceKind
kind_at words = word_at words >>= λ name. kind_with (reducer_of name.0) words name.1

-- whether a reducer has no property
abbrev pub is_count : ReduceKind → Bool
is_count kind.Count = true
is_count _ = false

-- how many arguments it has
abbrev pub arguments : ReduceKind → ℕ
arguments kind = if is_count kind then 0 else 1

abbrev pub argument_with : Bool → List Word → Read (Option Word)
argument_with true words = Ok (None, words)
argument_with false words = named_at form.Property words >>= λ name. Ok (Some name.0, name.1)

-- The argument, behind its number. Another number has the fault, and so has a number with fewer words behind it.
abbrev pub argument_at : ReduceKind → List Word → Read (Option Word)
argument_at kind words =
    number_at words >>= λ count. if (count.0 == arguments kind) && nat_le count.0 (length count.1) then argument_with (is_count kind) count.1 else fault Syntax words

-- A reducer's cell has the name behind AS; without AS the reducer's, and `_`, the byte 95, and the property's.
abbrev pub usual_name : ReduceKind → Option Word → Word
usual_name kind None = reducer_name kind
usual_name kind (Some property) = reducer_name kind ++ 95 ∷ property

unfoldable pub cell_at : ReduceKind → Option Word → List Word → Read Word
cell_at kind property [] = Ok (usual_name kind property, [])
cell_at kind property (word ∷ words) = if is_as word then word_at words else Ok (usual_name kind property, word ∷ words)

-- a reducer behind REDUCE
abbrev pub reduce_at : List Word → Read Reducer
reduce_at words = do
  kind ← kind_at words
  property ← argument_at kind.0 kind.1
  name ← cell_at kind.0 property.0 property.1
  Ok (record { kind = kind.0; of = property.0; name = name.0 }, name.1)

-- whether no further REDUCE follows
abbrev pub is_no_reduce : List Word → Bool
is_no_reduce [] = true
is_no_reduce (word ∷ words) = if is_name word (codes "REDUCE") then false else true

-- a reducer behind others
unfoldable pub reducer_at : List Reducer → List Word → Read (List Reducer)
reducer_at before [] = fault Syntax []
reducer_at before (word ∷ words) = reduce_at words >>= λ reducer. Ok (before ++ reducer.0 ∷ [], reducer.1)

abbrev pub reducers_at : List Word → Read (List Reducer)
reducers_at words = parts_at is_no_reduce reducer_at [] words

-- GROUPBY: a number, so many properties, and reducers
abbrev pub group_at : List Word → Read Step
group_at words = do
  by ← counted_names form.Property words
  reduce ← reducers_at by.1
  Ok (Group by.0 reduce.0, reduce.1)

-- A direction is read before the words behind the counted ones alone.
abbrev pub direction_before : ℕ → List Word → Bool × List Word
direction_before behind words = if are_behind behind words then (false, words) else direction_at words

-- a property to sort by, behind others, and its direction
abbrev pub key_with : ℕ → List SortKey → Word → List Word → Read (List SortKey)
key_with behind keys name words =
    Ok (keys ++ record { name = name; descending = (direction_before behind words).0 } ∷ [], (direction_before behind words).1)

unfoldable pub key_at : ℕ → List SortKey → List Word → Read (List SortKey)
key_at behind keys words = named_at form.Property words >>= λ name. key_with behind keys name.0 name.1

abbrev pub keys_up_to : ℕ → List Word → Read (List SortKey)
keys_up_to behind words = parts_at (are_behind behind) (key_at behind) [] words

-- MAX and a number, where it follows
unfoldable pub max_at : List Word → Read (Option ℕ)
max_at [] = Ok (None, [])
max_at (word ∷ words) = if is_name word (codes "MAX") then (number_at words >>= λ n. Ok (Some n.0, n.1)) else Ok (None, word ∷ words)

-- SORTBY: a number, so many words of properties with directions, and MAX
abbrev pub sorted_at : List Word → Read Step
sorted_at words = do
  count ← count_at words
  keys ← keys_up_to count.0 count.1
  max ← max_at keys.1
  Ok (Sort keys.0 max.0, max.1)

-- APPLY: an expression, AS and a name
abbrev pub apply_at : List Word → Read Step
apply_at words = do
  tree ← expression_at words
  name ← as_at tree.1
  Ok (Apply tree.0 name.0, name.1)

-- FILTER: an expression
abbrev pub keep_at : List Word → Read Step
keep_at words = expression_at words >>= λ tree. Ok (Keep tree.0, tree.1)

-- LIMIT
abbrev pub limit_at : List Word → Read Step
limit_at words = window_at words >>= λ window. Ok (Limit window.0.0 window.0.1, window.1)

-- the words of a step, behind its name
unfoldable pub step_at : StepName → List Word → Read Step
step_at step.Group words = group_at words
step_at step.Sort words = sorted_at words
step_at step.Apply words = apply_at words
step_at step.Filter words = keep_at words
step_at step.Limit words = limit_at words
