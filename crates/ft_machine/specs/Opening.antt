-- How a cursor is opened (RediSearch, FT.AGGREGATE with WITHCURSOR), and what FT.AGGREGATE gives.
use Rattle.std.specs.Prelude.{ℕ, List, [], ◌∷◌, ◌++◌, length, map, nat_le, Option, Some, None, if◌then◌else◌, codes}
use Rattle.std.specs.List.{list_all}
use Rattle.agg_pipeline.specs.Stream.{is_of_rows}
use Rattle.cmd_parse.specs.Aggregating.{Aggregating}
use Rattle.cmd_parse.specs.declared.aggregate_words.CursorSpec.{CursorSpec}
use Rattle.cursor_book.specs.Cursors.{body_left, cursors_of}
use Rattle.cursor_book.specs.declared.cursor.Body.{Body}
use Rattle.cursor_book.specs.declared.cursor.Body.TheVariants as body
use Rattle.cursor_book.specs.declared.cursor.Cursor.{Cursor}
use Rattle.ft_base.specs.declared.definition.IndexDef.{IndexDef}
use Rattle.ft_base.specs.Docs.{Doc}
use Rattle.ft_base.specs.declared.query.Query.{Query}
use Rattle.ft_base.specs.declared.reply.Reply.TheVariants.{Fault}
use Rattle.ft_base.specs.declared.row.Row.{Row}
use Rattle.ft_meaning.specs.Holds.{found_of}
use Rattle.ft_machine.specs.Aggregating.{aggregate_reply, aggregate_rows}
use Rattle.ft_machine.specs.Answering.{queried}
use Rattle.ft_machine.specs.Definitions.{Defined}
use Rattle.ft_machine.specs.Machine.{Outcome, State, answered}
use Rattle.ft_machine.specs.Parts.{Part, part_of, part_reply}

-- a row is kept for its cells alone
abbrev pub cells_alone : Row → Row
cells_alone row = record { doc = None; cells = row.cells }

-- what a cursor is read from: documents one by one, or rows that are made at once
abbrev pub body_of : Aggregating → IndexDef → Query → List Doc → Body
body_of what def query docs =
    if list_all is_of_rows what.steps then body.Stream query (what.load, what.steps) 0
    else body.Rows (map cells_alone (aggregate_rows what.load what.steps def (found_of query def docs)))

-- the most cursors of an index
abbrev pub most_cursors : ℕ
most_cursors = 128

-- a cursor that is new at a moment
abbrev pub new_cursor : ℕ → CursorSpec → ℕ → ℕ → Body → Cursor
new_cursor serial spec number now body = record {
  id = number;
  serial = serial;
  last_use = now;
  max_idle = spec.max_idle;
  count = spec.count;
  body = body;
}

-- a cursor goes last, where its index has room for one more
abbrev pub kept : ℕ → Cursor → Part → State → Outcome
kept number cursor part state =
    if nat_le most_cursors (length (cursors_of cursor.serial state.cursors)) then answered (Fault (codes "Too many cursors")) state
    else record { reply = part_reply number part; after = record state { cursors = state.cursors ++ cursor ∷ [] } }

-- The first read, which opens a cursor of the event's number, unless it ends it.
abbrev pub opened_by : ℕ → CursorSpec → ℕ → Body → Part → State → Outcome
opened_by serial spec number body part state =
    if part.ends then answered (part_reply number part) state
    else kept number (new_cursor serial spec number state.latest (body_left part.taken body)) part state

abbrev pub opened : Aggregating → CursorSpec → ℕ → State → IndexDef → Query → Outcome
opened what spec number state def query =
    let body = body_of what def query state.space in opened_by def.serial spec number body (part_of def state.space spec.count body) state

-- FT.AGGREGATE: all rows, or a cursor
abbrev pub aggregate_gives : Aggregating → Option CursorSpec → ℕ → State → IndexDef → Query → Outcome
aggregate_gives what None number state def query = answered (aggregate_reply what state.space def query) state
aggregate_gives what (Some spec) number state def query = opened what spec number state def query

-- what an aggregate may give, where there is the index or none
abbrev pub aggregated : Option Defined → Aggregating → ℕ → State → Outcome → Type 0
aggregated index what number state outcome = queried index what.params what.query (aggregate_gives what what.cursor number state) state outcome
