-- What FT.CURSOR gives (RediSearch, FT.CURSOR READ and DEL): the next part of a cursor, or its end.
use Rattle.std.specs.Prelude.{ℕ, List, unwrap_or, Option, Some, None, if◌then◌else◌, codes}
use Rattle.cursor_book.specs.Cursors.{cursor_of, read, without}
use Rattle.cursor_book.specs.declared.cursor.Cursor.{Cursor}
use Rattle.ft_base.specs.declared.definition.IndexDef.{IndexDef}
use Rattle.ft_base.specs.declared.reply.Reply.TheVariants.{Fault, Line}
use Rattle.ft_machine.specs.Definitions.{Defined}
use Rattle.ft_machine.specs.Indexes.{unknown_index}
use Rattle.ft_machine.specs.Machine.{Outcome, State, answered}
use Rattle.ft_machine.specs.Parts.{Part, part_of, part_reply}

-- the text where an index has no such cursor
abbrev pub unknown_cursor : List ℕ
unknown_cursor = codes "Cursor not found"

-- the cursors behind a read of one of them: it goes on behind what was taken, or it ended
abbrev pub cursors_left : Cursor → Part → ℕ → List Cursor → List Cursor
cursors_left cursor part now cursors =
    if part.ends then without cursor.serial cursor.id cursors else read cursor.serial cursor.id now part.taken cursors

abbrev pub read_gives : Cursor → Part → State → Outcome
read_gives cursor part state = record {
  reply = part_reply cursor.id part;
  after = record state { cursors = cursors_left cursor part state.latest state.cursors };
}

-- FT.CURSOR READ: so many rows, or as many as the opening said
abbrev pub read_of : IndexDef → Option ℕ → Option Cursor → State → Outcome
read_of def count None state = answered (Fault unknown_cursor) state
read_of def count (Some cursor) state = read_gives cursor (part_of def state.space (unwrap_or count cursor.count) cursor.body) state

abbrev pub cursor_read : Option Defined → ℕ → Option ℕ → State → Outcome
cursor_read None id count state = answered (Fault unknown_index) state
cursor_read (Some index) id count state = read_of index.def count (cursor_of index.def.serial id state.cursors) state

-- FT.CURSOR DEL
abbrev pub deleted_of : Option Cursor → State → Outcome
deleted_of None state = answered (Fault unknown_cursor) state
deleted_of (Some cursor) state = record {
  reply = Line (codes "OK");
  after = record state { cursors = without cursor.serial cursor.id state.cursors };
}

abbrev pub cursor_deleted : Option Defined → ℕ → State → Outcome
cursor_deleted None id state = answered (Fault unknown_index) state
cursor_deleted (Some index) id state = deleted_of (cursor_of index.def.serial id state.cursors) state
