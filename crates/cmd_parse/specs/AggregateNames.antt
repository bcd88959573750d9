-- The words that name parts and reducers of FT.AGGREGATE (RediSearch). They are read in any case.
use Rattle.std.specs.Prelude.{ℕ, List, Bool, ◌||◌, codes, Result, Ok, Err, if◌then◌else◌}
use Rattle.ft_base.specs.Names.{is_name}
use Rattle.agg_pipeline.specs.declared.step.ReduceKind.{ReduceKind}
use Rattle.agg_pipeline.specs.declared.step.ReduceKind.TheVariants as kind
use Rattle.cmd_parse.specs.OptionNames.{is_left_out}
use Rattle.cmd_parse.specs.Words.{Word}
use Rattle.cmd_parse.specs.declared.aggregate_names.PartName.{PartName}
use Rattle.cmd_parse.specs.declared.aggregate_names.PartName.TheVariants as part
use Rattle.cmd_parse.specs.declared.aggregate_names.StepName.TheVariants as step
use Rattle.cmd_parse.specs.declared.stop.Cause.{Cause}
use Rattle.cmd_parse.specs.declared.stop.Cause.TheVariants.{OutOfScope, Syntax}

-- the part that a word begins; REDUCE begins none, since it belongs to a GROUPBY
unfoldable pub part_of : Word → PartName
part_of word =
    if is_name word (codes "VERBATIM") then part.Verbatim
    else (if is_name word (codes "TIMEOUT") then part.Timeout
    else (if is_name word (codes "DIALECT") then part.Dialect
    else (if is_name word (codes "PARAMS") then part.Params
    else (if is_name word (codes "WITHCURSOR") then part.Cursor
    else (if is_name word (codes "LOAD") then part.Load
    else (if is_name word (codes "GROUPBY") then part.Step step.Group
    else (if is_name word (codes "SORTBY") then part.Step step.Sort
    else (if is_name word (codes "APPLY") then part.Step step.Apply
    else (if is_name word (codes "FILTER") then part.Step step.Filter
    else (if is_name word (codes "LIMIT") then part.Step step.Limit
    else (if is_left_out word then part.LeftOut
    else part.Other)))))))))))

-- reducers that RediSearch has and this server leaves out
abbrev pub is_reducer_left_out : Word → Bool
is_reducer_left_out word =
    is_name word (codes "AVG")
    || (is_name word (codes "STDDEV")
    || (is_name word (codes "QUANTILE")
    || (is_name word (codes "RANDOM_SAMPLE")
    || is_name word (codes "COUNT_DISTINCTISH"))))

-- the reducer that a word names, or what is wrong with the word
unfoldable pub reducer_of : Word → Result ReduceKind Cause
reducer_of word =
    if is_name word (codes "COUNT") then Ok kind.Count
    else (if is_name word (codes "COUNT_DISTINCT") then Ok kind.CountDistinct
    else (if is_name word (codes "SUM") then Ok kind.Sum
    else (if is_name word (codes "MIN") then Ok kind.Min
    else (if is_name word (codes "MAX") then Ok kind.Max
    else (if is_name word (codes "TOLIST") then Ok kind.ToList
    else (if is_name word (codes "FIRST_VALUE") then Ok kind.FirstValue
    else (if is_reducer_left_out word then Err OutOfScope
    else Err Syntax)))))))

-- a reducer's name in lower case
abbrev pub reducer_name : ReduceKind → List ℕ
reducer_name kind.Count = codes "count"
reducer_name kind.CountDistinct = codes "count_distinct"
reducer_name kind.Sum = codes "sum"
reducer_name kind.Min = codes "min"
reducer_name kind.Max = codes "max"
reducer_name kind.ToList = codes "tolist"
reducer_name kind.FirstValue = codes "first_value"
