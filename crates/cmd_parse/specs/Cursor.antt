-- The words of FT.CURSOR (RediSearch): a subcommand, an index, a cursor's id, and for READ how many rows.
use Rattle.std.specs.Prelude.{ℕ, List, [], ◌∷◌, length, drop, Option, Some, None, Result, Ok, Err, codes, if◌then◌else◌}
use Rattle.ft_base.specs.Names.{is_name}
use Rattle.ft_base.specs.Reading.{◌>>=◌}
use Rattle.cmd_parse.specs.AggregateWords.{limited_at, most_count}
use Rattle.cmd_parse.specs.Asked.{Asked, CursorRead, CursorDel}
use Rattle.cmd_parse.specs.Search.{is_at_end}
use Rattle.cmd_parse.specs.Searching.{placed}
use Rattle.cmd_parse.specs.Words.{Word, Read, fault, word_at, number_at}
use Rattle.cmd_parse.specs.declared.command.CmdFault.{CmdFault}
use Rattle.cmd_parse.specs.declared.cursor.Subcommand.{Subcommand}
use Rattle.cmd_parse.specs.declared.cursor.Subcommand.TheVariants as subcommand
use Rattle.cmd_parse.specs.declared.stop.Cause.TheVariants.{Syntax}
use Rattle.cmd_parse.specs.declared.stop.Stop.{Stop}

-- the subcommand that a word names
abbrev pub subcommand_of : Word → Option Subcommand
subcommand_of word =
    if is_name word (codes "READ") then Some subcommand.Read else (if is_name word (codes "DEL") then Some subcommand.Del else None)

abbrev pub subcommand_with : Option Subcommand → List Word → List Word → Read Subcommand
subcommand_with None from words = fault Syntax from
subcommand_with (Some name) from words = Ok (name, words)

-- the next word as a subcommand
abbrev pub subcommand_at : List Word → Read Subcommand
subcommand_at words = word_at words >>= λ word. subcommand_with (subcommand_of word.0) words word.1

-- COUNT and how many rows, where it follows
abbrev pub rows_at : List Word → Read (Option ℕ)
rows_at [] = Ok (None, [])
rows_at (word ∷ words) =
    if is_name word (codes "COUNT") then (limited_at most_count words >>= λ n. Ok (Some n.0, n.1)) else Ok (None, word ∷ words)

-- what is asked, where no word is left
abbrev pub unless_more : List Word → Asked → Result Asked Stop
unless_more words asked = if is_at_end words then Ok asked else fault Syntax words

-- what READ asks with these words behind the id
abbrev pub read_by : Word → ℕ → List Word → Result Asked Stop
read_by index id words = rows_at words >>= λ count. unless_more count.1 (CursorRead index id count.0)

-- what a subcommand asks
abbrev pub asked_by : Subcommand → Word → ℕ → List Word → Result Asked Stop
asked_by subcommand.Read index id words = read_by index id words
asked_by subcommand.Del index id words = unless_more words (CursorDel index id)

-- the words behind the command's name
abbrev pub cursor_at : List Word → Result Asked Stop
cursor_at words = do
  name ← subcommand_at words
  index ← word_at name.1
  id ← number_at index.1
  asked_by name.0 index.0 id.0 id.1

-- what was read, in a command of `total` words
abbrev pub cursor_with : ℕ → Result Asked Stop → Result Asked CmdFault
cursor_with total (Ok asked) = Ok asked
cursor_with total (Err stop) = Err (placed total stop)

-- The words of FT.CURSOR, its name among them.
abbrev pub cursor : List Word → Result Asked CmdFault
cursor words = cursor_with (length words) (cursor_at (drop 1 words))
