-- What an aggregate asks (RediSearch, FT.AGGREGATE).
use Rattle.std.specs.Prelude.{List, [], ◌∷◌, length, unwrap_or, Option, Result, Ok, Err}
use Rattle.agg_pipeline.specs.declared.step.Load.{Load}
use Rattle.agg_pipeline.specs.declared.step.Load.TheVariants.{Nothing}
use Rattle.agg_pipeline.specs.declared.step.Step.{Step}
use Rattle.ft_base.specs.declared.query.Param.{Param}
use Rattle.cmd_parse.specs.Aggregate.{all_parts_at}
use Rattle.cmd_parse.specs.Searching.{placed}
use Rattle.cmd_parse.specs.Words.{Word}
use Rattle.cmd_parse.specs.declared.aggregate.AggregateSpec.{AggregateSpec}
use Rattle.cmd_parse.specs.declared.aggregate_words.CursorSpec.{CursorSpec}
use Rattle.cmd_parse.specs.declared.aggregate_parts.Parts.{Parts}
use Rattle.cmd_parse.specs.declared.command.CmdFault.{CmdFault}
use Rattle.cmd_parse.specs.declared.command.CmdFault.TheVariants.{Arity}
use Rattle.cmd_parse.specs.declared.stop.Stop.{Stop}

pub record Aggregating : Type 0 where
  pub index : Word
  pub query : Word
  -- the properties that have cells from the start
  pub load : Load
  -- what is done with the rows, in order
  pub steps : List Step
  -- the values of the query's parameters
  pub params : List Param
  -- how the rows are read, where they are read by a cursor
  pub cursor : Option CursorSpec

-- An aggregate by its parts.
abbrev pub aggregating_of : Word → Word → Parts → Aggregating
aggregating_of index query parts = record {
  index = index;
  query = query;
  load = unwrap_or parts.load Nothing;
  steps = parts.steps;
  params = unwrap_or parts.params [];
  cursor = parts.cursor;
}

-- an aggregate of this index and query, by its parts or their fault, in a command of so many words
abbrev pub aggregate_with : Word → Word → List Word → Result Parts Stop → Result Aggregating CmdFault
aggregate_with index query all (Ok parts) = Ok (aggregating_of index query parts)
aggregate_with index query all (Err stop) = Err (placed (length all) stop)

-- The words of FT.AGGREGATE, its name among them.
abbrev pub aggregate : List Word → Result Aggregating CmdFault
aggregate (name ∷ index ∷ query ∷ parts) = aggregate_with index query (name ∷ index ∷ query ∷ parts) (all_parts_at parts)
aggregate _ = Err Arity

-- How contracts see what the code holds of it: words that are lent as the words that they are.
abbrev pub aggregate_of : AggregateSpec → Aggregating
aggregate_of spec = record {
  index = spec.index.now;
  query = spec.query.now;
  load = spec.load;
  steps = spec.steps;
  params = spec.params;
  cursor = spec.cursor;
}
