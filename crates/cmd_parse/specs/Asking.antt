-- What is asked by words that keep the limits of a command.
use Rattle.std.specs.Prelude.{◌≤◌, ℕ, List, length, IfSome}
use Rattle.std.specs.List.{All}
use Rattle.ft_base.specs.declared.limits.TheConstants.{MAX_WORD_BYTES}
use Rattle.ft_schema.specs.Lawful.{IsLawful as AreLawful}
use Rattle.cmd_parse.specs.Asked.{Asked, Plain, CreateIndex, AlterIndex, Search, Aggregate, CursorRead, CursorDel}
use Rattle.cmd_parse.specs.Lawful.{Lawful}
use Rattle.cmd_parse.specs.LawfulCursor.{IsCount, IsId}

-- no argument is longer than a word may be
abbrev pub AreWords : List (List ℕ) → Type 0
AreWords args = All (λ arg. length arg ≤ MAX_WORD_BYTES) args

-- What the words of a command on the wire ask: a plain command has lawful arguments, the fields of a schema keep its limits,
-- a query is no longer than a word, and a cursor's id and the rows of a read are lawful.
abbrev pub IsAsked : Asked → Type 0
IsAsked (Plain verb args) = Lawful verb args × AreWords args
IsAsked (CreateIndex index) = AreLawful index.fields
IsAsked (AlterIndex index fields) = AreLawful fields
IsAsked (Search what) = length what.query ≤ MAX_WORD_BYTES
IsAsked (Aggregate what) = length what.query ≤ MAX_WORD_BYTES
IsAsked (CursorRead index id count) = IsId id × IfSome count IsCount
IsAsked (CursorDel index id) = IsId id
