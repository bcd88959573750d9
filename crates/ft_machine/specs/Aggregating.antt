-- What an aggregate is answered (RediSearch, FT.AGGREGATE): the rows that its steps make of the documents found.
use Rattle.std.specs.Prelude.{pos, List, [], ◌∷◌, length, map}
use Rattle.std.specs.Fmt.{signed_decimal}
use Rattle.std.specs.List.{flat_map}
use Rattle.agg_pipeline.specs.Rows.{loaded}
use Rattle.agg_pipeline.specs.Steps.{piped}
use Rattle.agg_pipeline.specs.declared.step.Load.{Load}
use Rattle.agg_pipeline.specs.declared.step.Step.{Step}
use Rattle.cmd_parse.specs.Aggregating.{Aggregating}
use Rattle.ft_base.specs.declared.definition.IndexDef.{IndexDef}
use Rattle.ft_base.specs.Docs.{Doc}
use Rattle.ft_base.specs.declared.query.Query.{Query}
use Rattle.ft_base.specs.declared.reply.Reply.{Reply}
use Rattle.ft_base.specs.declared.reply.Reply.TheVariants.{Array, Bulk, NullBulk, Number}
use Rattle.ft_base.specs.declared.row.Cell.{Cell}
use Rattle.ft_base.specs.declared.row.Row.{Row}
use Rattle.ft_base.specs.declared.row.Value.{Value}
use Rattle.ft_base.specs.declared.row.Value.TheFolds.{fold-Value}
use Rattle.ft_base.specs.declared.row.Value.TheOpen as layer
use Rattle.ft_meaning.specs.Holds.{found_of}

-- how one value is shown, with each inner value as it is shown: a number in its canonical spelling
abbrev pub value_step : layer.Value-F Reply → Reply
value_step layer.Null = NullBulk
value_step (layer.Num n) = Bulk (signed_decimal n)
value_step (layer.Text text) = Bulk text
value_step (layer.List values) = Array values

abbrev pub value_reply : Value → Reply
value_reply = fold-Value Reply value_step

-- a row: names and values in turn
abbrev pub cell_replies : Cell → List Reply
cell_replies cell = Bulk cell.name ∷ value_reply cell.value ∷ []

abbrev pub row_reply : Row → Reply
row_reply row = Array (flat_map cell_replies row.cells)

-- the number of rows, and the rows
abbrev pub rows_reply : List Row → Reply
rows_reply rows = Array (Number (pos (length rows)) ∷ map row_reply rows)

-- the rows that steps make of documents, in order of their ids
abbrev pub aggregate_rows : Load → List Step → IndexDef → List Doc → List Row
aggregate_rows load steps def docs = piped def steps (map (loaded load def) docs)

abbrev pub aggregate_reply : Aggregating → List Doc → IndexDef → Query → Reply
aggregate_reply what docs def query = rows_reply (aggregate_rows what.load what.steps def (found_of query def docs))
