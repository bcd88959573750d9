-- How a map from spellings to values stands for a list of distinct values.
use Rattle.std.specs.Prelude.{◌≡◌, ℕ, List, false, is_some}
use Rattle.std.specs.Coded.{Coded, coded_list}
use Rattle.std.specs.List.{AllByRecursion}
use Rattle.std.specs.Map.{lookup, values_of}
use Rattle.std.specs.declared.alloc.Global.{Global}
use Rattle.std.specs.declared.vec.Vec.{Vec}
use Rattle.ft_base.specs.contracts.row.Value.{the_row as value_row}
use Rattle.ft_base.specs.declared.row.Value.{Value}
use Rattle.agg_pipeline.specs.Equal.{spelled, value_eq}
use Rattle.agg_pipeline.specs.Keyed.{add_first}
use Rattle.agg_pipeline.specs.Spellings.{is_kept}

-- what they stand for
abbrev pub Values : Type 0
Values = List Value

-- they are stored as a list
abbrev pub values_code : Coded Values
values_code = coded_list value_row.coded

-- one more goes last, where it is not there
abbrev pub with_value : Values → Value → Values
with_value values v = add_first value_eq values v

-- pairs of a spelling and its value
abbrev pub Spelled : Type 0
Spelled = List (Vec ℕ Global × Value)

-- an entry's key is the spelling of its value
abbrev pub IsSpelled : Vec ℕ Global × Value → Type 0
IsSpelled entry = entry.0.items ≡ spelled entry.1

abbrev pub AreSpelled : Spelled → Type 0
AreSpelled entries = AllByRecursion IsSpelled entries

-- no value has the spelling
abbrev pub IsNew : List ℕ → Spelled → Type 0
IsNew spelling entries = is_some (lookup (is_kept spelling) entries) ≡ false

-- one more value went in, under its spelling
abbrev pub TakesValue : Value → Spelled → Spelled → Type 0
TakesValue v old new = AreSpelled old → values_of new ≡ with_value (values_of old) v
