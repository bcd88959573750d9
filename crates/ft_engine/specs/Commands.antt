-- What is said of a command by what it asks, and of one that its words refuse.
use Rattle.std.specs.Prelude.{◌≡◌, ◌<◌, ◌≤◌, ℕ, List, [], Ok, Err, slice_index_or}
use Rattle.cmd_parse.specs.Asking.{IsAsked}
use Rattle.cmd_parse.specs.Lawful.{HasSerial}
use Rattle.cmd_parse.specs.Read.{Asked, read}
use Rattle.cmd_parse.specs.Reading.{IsReading, command_of}
use Rattle.cmd_parse.specs.Refusals.{refusal}
use Rattle.cmd_parse.specs.declared.command.CmdFault.{CmdFault}
use Rattle.cmd_parse.specs.declared.command.Command.{Command}
use Rattle.ft_base.specs.Reply.{spelling}
use Rattle.ft_base.specs.declared.reply.Reply.TheVariants.{Fault}
pub use Rattle.ft_base.specs.Words.{KeepsLimits}
use Rattle.ft_engine.specs.Collecting.{Collects}
use Rattle.ft_engine.specs.Quiet.{IsQuietFor}
use Rattle.ft_index.specs.Index.{Index}
use Rattle.ft_machine.specs.Step.{last_event, last_number}
use Rattle.ft_engine.specs.Exactness.{ReadsFew, TellsExactly}
use Rattle.indexed_store.specs.Holding.{Holding}
use Rattle.indexed_store.specs.Preparing.{Prepares}
use Rattle.indexed_store.specs.declared.change.Change.{Change}

-- words ask for it that keep the limits of a command
abbrev pub IsLawful : Command → Type 0
IsLawful command = IsAsked (command_of command)

-- it was read for the event of this number, which is the serial of an index that it creates
abbrev pub IsReadFor : ℕ → Command → Type 0
IsReadFor number command = HasSerial number (command_of command)

-- it is prepared in this event
abbrev pub IsPreparedAs : Command → Holding → Holding → List ℕ → Change → Type 0
IsPreparedAs command old new written change = Prepares (command_of command) old new written change

-- it read as many documents as it asks for, and no more, by their count before and behind it
abbrev pub ReadsAsAsked : Command → List ℕ → ℕ → ℕ → Type 0
ReadsAsAsked command written old new = ReadsFew (command_of command) written old new

-- it tells as many records of these indexes as their lists have
abbrev pub TellsAsAsked : Command → List Index → List ℕ → Type 0
TellsAsAsked command indexes written = TellsExactly (command_of command) indexes written

-- where it asks for no change of documents and definitions, it makes none
abbrev pub IsQuietAsAsked : Command → Change → Type 0
IsQuietAsAsked command change = IsQuietFor (command_of command) change

-- where it is said to be done, the lists of these indexes are collected as it asks
abbrev pub CollectsAsAsked : Command → List Index → List ℕ → Type 0
CollectsAsAsked command indexes written = Collects (command_of command) indexes written

-- what words ask at this number reads as many documents, and no more
abbrev pub WordsRead : ℕ → List (List ℕ) → List ℕ → ℕ → ℕ → Type 0
WordsRead number words written old new = (asks : Asked) → read number words ≡ Ok asks → ReadsFew asks written old new

-- and it tells as many records
abbrev pub WordsTell : ℕ → List (List ℕ) → List Index → List ℕ → Type 0
WordsTell number words indexes written = (asks : Asked) → read number words ≡ Ok asks → TellsExactly asks indexes written

-- and where it is said to be done, the lists are collected
abbrev pub WordsCollect : ℕ → List (List ℕ) → List Index → List ℕ → Type 0
WordsCollect number words indexes written = (asks : Asked) → read number words ≡ Ok asks → Collects asks indexes written

-- words have this fault
abbrev pub AreRefused : ℕ → List (List ℕ) → CmdFault → Type 0
AreRefused number words fault = IsReading number words (Err fault)

-- before the last number, the text of a fault is written
abbrev pub TellsFault : ℕ → List (List ℕ) → CmdFault → List ℕ → Type 0
TellsFault number words fault written = number < last_number → written ≡ spelling (Fault (refusal (slice_index_or words 0 []) fault))

-- the text of every command at the last number
abbrev pub IsLastText : List ℕ → Type 0
IsLastText written = written ≡ spelling (Fault last_event)

-- at the last number it is written
abbrev pub TellsLast : ℕ → List ℕ → Type 0
TellsLast number written = last_number ≤ number → IsLastText written
