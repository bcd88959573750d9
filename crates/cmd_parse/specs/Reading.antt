-- What a reader of the code answers, against what the words ask.
use Rattle.std.specs.Prelude.{◌≡◌, ℕ, List, Result, Ok, Err, IsTrue}
use Rattle.cmd_parse.specs.Aggregating.{aggregate_of}
use Rattle.cmd_parse.specs.Asked.{Asked, Plain, CreateIndex, AlterIndex, Search, Aggregate, CursorRead, CursorDel}
use Rattle.cmd_parse.specs.Read.{read, takes_memory}
use Rattle.cmd_parse.specs.Seen.{search_of}
use Rattle.cmd_parse.specs.declared.command.CmdFault.{CmdFault}
use Rattle.cmd_parse.specs.declared.command.CmdFault.TheVariants.{NoMemory}
use Rattle.cmd_parse.specs.declared.command.Command.{Command}
use Rattle.cmd_parse.specs.declared.command.Command.TheVariants as command

-- what the code's command is among these
abbrev pub command_of : Command → Asked
command_of (command.Plain verb args) = Plain verb args
command_of (command.Create index) = CreateIndex index
command_of (command.Alter index fields) = AlterIndex index.now fields
command_of (command.Search spec) = Search (search_of spec)
command_of (command.Aggregate spec) = Aggregate (aggregate_of spec)
command_of (command.CursorRead index id count) = CursorRead index.now id count
command_of (command.CursorDel index id) = CursorDel index.now id

-- A command or a fault is what the words ask. Memory runs out only where they are read with it.
abbrev pub IsReading : ℕ → List (List ℕ) → Result Command CmdFault → Type 0
IsReading serial words (Ok command) = read serial words ≡ Ok (command_of command)
IsReading serial words (Err NoMemory) = IsTrue (takes_memory words)
IsReading serial words (Err fault) = read serial words ≡ Err fault

-- what a reader without memory answers, as what is asked
abbrev pub asked_of : Result Command CmdFault → Result Asked CmdFault
asked_of (Ok command) = Ok (command_of command)
asked_of (Err fault) = Err fault
