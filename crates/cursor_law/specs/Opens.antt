-- When a step opens a stream cursor.
use Rattle.std.specs.Prelude.{◌≡◌, ◌≢◌, ◌<◌, codes, Some, Ok}
use Rattle.agg_pipeline.specs.Stream.{AreOfRows}
use Rattle.cmd_parse.specs.Aggregating.{Aggregating}
use Rattle.cmd_parse.specs.Asked.{Aggregate}
use Rattle.cmd_parse.specs.Read.{read}
use Rattle.cmd_parse.specs.declared.aggregate_words.CursorSpec.{CursorSpec}
use Rattle.cursor_law.specs.Steps.{Step}
use Rattle.cursor_law.specs.StreamCursor.{StreamCursor}
use Rattle.ft_base.specs.Memory.{out_of_memory}
use Rattle.ft_base.specs.Reply.{spelling}
use Rattle.ft_base.specs.declared.reply.Reply.TheVariants.{Fault}
use Rattle.ft_machine.specs.Definitions.{Defined, index_of}
use Rattle.ft_machine.specs.Step.{last_number}
use Rattle.query_grammar.specs.Answer.{IsAnswer}

-- A step's words ask for the cursor, of an index that is there and by a text that is the query, and the step is answered
-- neither that memory ran out nor that the index has too many cursors. The cursor may end at once.
pub record Opens (cursor : StreamCursor) (step : Step) : Type 0 where
  pub what : Aggregating
  pub spec : CursorSpec
  pub index : Defined
  pub number : step.number < last_number
  pub asks : read step.number step.words ≡ Ok (Aggregate what)
  pub with_cursor : what.cursor ≡ Some spec
  pub there : index_of step.old.definitions what.index ≡ Some index
  pub query : IsAnswer index.def what.params what.query (Ok cursor.query)
  pub of_rows : AreOfRows what.steps
  pub stream : cursor.stream ≡ (what.load, what.steps)
  pub serial : cursor.serial ≡ index.def.serial
  pub id : cursor.id ≡ step.number
  pub count : cursor.count ≡ spec.count
  pub memory : step.reply ≢ spelling out_of_memory
  pub room : step.reply ≢ spelling (Fault (codes "Too many cursors"))
