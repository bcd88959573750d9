-- What a stream cursor gives over a history: the documents of its opening, and those of each read, step after step.
use Rattle.std.specs.Prelude.{ℕ, List, [], ◌++◌, not, nat_eq, nat_lt, ◌&&◌, Bool, false, Option, Some, None, unwrap_or, Result, Ok, if◌then◌else◌}
use Rattle.std.specs.List.{filter_map, flat_map}
use Rattle.std.specs.Str.{bytes_eq}
use Rattle.cmd_parse.specs.Asked.{Asked, CursorRead}
use Rattle.cmd_parse.specs.Read.{read}
use Rattle.cmd_parse.specs.declared.command.CmdFault.{CmdFault}
use Rattle.cursor_law.specs.Steps.{Step}
use Rattle.cursor_law.specs.StreamCursor.{StreamCursor, after_in, given_in, index_in, row_in}
use Rattle.ft_base.specs.Memory.{out_of_memory}
use Rattle.ft_base.specs.Reply.{spelling}
use Rattle.ft_base.specs.Docs.{Doc}
use Rattle.ft_base.specs.declared.row.Row.{Row}
use Rattle.ft_machine.specs.Definitions.{Defined, index_of}
use Rattle.ft_machine.specs.Machine.{State, at_moment}
use Rattle.ft_machine.specs.Step.{last_number}

-- A read: behind which id it goes on, and how many rows are asked for.
pub record Read : Type 0 where
  pub after : ℕ
  pub count : ℕ

-- the read that opens a cursor
abbrev pub first_read : StreamCursor → Read
first_read cursor = record { after = 0; count = cursor.count }

-- whether an index and an id are those of the cursor
abbrev pub is_cursor : StreamCursor → Option Defined → ℕ → Bool
is_cursor cursor None id = false
is_cursor cursor (Some index) id = nat_eq index.def.serial cursor.serial && nat_eq id cursor.id

-- how many rows a command asks of the cursor: FT.CURSOR READ says so, or else the opening did
abbrev pub asked_by : StreamCursor → State → Result Asked CmdFault → Option ℕ
asked_by cursor state (Ok (CursorRead index id count)) =
    if is_cursor cursor (index_of state.definitions index) id then Some (unwrap_or count cursor.count) else None
asked_by cursor state _ = None

-- Whether a command is done: at the last number none is, and none that is answered that memory ran out.
abbrev pub is_done : Step → Bool
is_done step = nat_lt step.number last_number && not (bytes_eq step.reply (spelling out_of_memory))

abbrev pub asked : StreamCursor → Step → Option ℕ
asked cursor step = if is_done step then asked_by cursor step.old (read step.number step.words) else None

-- a read, where the cursor is there and rows are asked of it
abbrev pub read_from : Option ℕ → Option ℕ → Option Read
read_from (Some after) (Some count) = Some (record { after = after; count = count })
read_from (Some after) None = None
read_from None count = None

-- the read that a step takes of the cursor, if any; a cursor that is idle at the step's moment is gone
abbrev pub read_at : StreamCursor → Step → Option Read
read_at cursor step = read_from (after_in cursor (at_moment step.moment step.old)) (asked cursor step)

-- the documents that give the rows of a read at a step
abbrev pub docs_of : StreamCursor → Step → Read → List Doc
docs_of cursor step read = given_in cursor (index_in cursor.serial step.old) read.after read.count step.old.space

abbrev pub docs_if : StreamCursor → Step → Option Read → List Doc
docs_if cursor step None = []
docs_if cursor step (Some read) = docs_of cursor step read

-- the documents that a step gives
abbrev pub given_at : StreamCursor → Step → List Doc
given_at cursor step = docs_if cursor step (read_at cursor step)

-- the documents that the opening gives, and the steps behind it
abbrev pub given : StreamCursor → Step → List Step → List Doc
given cursor opening later = docs_of cursor opening (first_read cursor) ++ flat_map (given_at cursor) later

-- their rows
abbrev pub rows_of : StreamCursor → Step → Read → List Row
rows_of cursor step read = filter_map (row_in cursor (index_in cursor.serial step.old)) (docs_of cursor step read)
