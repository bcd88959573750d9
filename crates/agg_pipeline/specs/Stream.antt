-- Steps that take a row at a time, so that the rows need not be held.
use Rattle.std.specs.Prelude.{◌≡◌, Bool, true, false, List}
use Rattle.std.specs.Coded.{Coded, coded×, coded_list}
use Rattle.std.specs.List.{list_all}
use Rattle.agg_pipeline.specs.contracts.step.Load.{the_row as load_row}
use Rattle.agg_pipeline.specs.contracts.step.Step.{the_row as step_row}
use Rattle.agg_pipeline.specs.declared.step.Load.{Load}
use Rattle.agg_pipeline.specs.declared.step.Step.{Step}
use Rattle.agg_pipeline.specs.declared.step.Step.TheVariants.{Apply, Group, Keep, Limit, Sort}

-- LOAD, and the steps behind it
abbrev pub Stream : Type 0
Stream = Load × List Step

-- it is stored as a pair
abbrev pub stream_code : Coded Stream
stream_code = coded× load_row.coded (coded_list step_row.coded)

-- whether a step takes a row at a time
abbrev pub is_of_rows : Step → Bool
is_of_rows (Group by reduce) = false
is_of_rows (Sort keys max) = false
is_of_rows (Apply expr name) = true
is_of_rows (Keep expr) = true
is_of_rows (Limit offset num) = false

abbrev pub AreOfRows : List Step → Type 0
AreOfRows steps = list_all is_of_rows steps ≡ true
