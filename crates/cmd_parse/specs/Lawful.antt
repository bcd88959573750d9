-- What a caller may rely on of what is asked.
use Rattle.std.specs.Prelude.{◌≡◌, ◌+◌, ◌%◌, ◌≤◌, ℕ, List, [], length, drop, slice_index_or, IfSome, IsSome}
use Rattle.ft_base.specs.Number.{int_of}
use Rattle.ft_schema.specs.Lawful.{IsLawful as AreLawful}
use Rattle.cmd_parse.specs.Asked.{Asked, Plain, CreateIndex, AlterIndex, Search, Aggregate, CursorRead, CursorDel}
use Rattle.cmd_parse.specs.LawfulAggregate.{IsLawfulAggregate}
use Rattle.cmd_parse.specs.LawfulCursor.{IsCount, IsId}
use Rattle.cmd_parse.specs.LawfulSearch.{IsLawfulSearch}
use Rattle.cmd_parse.specs.declared.command.Verb.{Verb}
use Rattle.cmd_parse.specs.declared.command.Verb.TheVariants.{Ping, Echo, Select, Quit, Hset, Hsetnx, Hget, Hmget, Hgetall, Hdel, Hlen, Hexists, Hincrby, Hkeys, Hvals, Del, Exists, TypeOf, Dbsize, Rename, Flushall, DropIndex, ListIndexes, Info, TagVals, Debug}
use Rattle.cmd_parse.specs.declared.table.Form.{Form}
use Rattle.cmd_parse.specs.declared.table.Form.TheVariants.{Between, AtLeast, InPairs, Create, Alter}
use Rattle.cmd_parse.specs.declared.table.Form.TheVariants as form

-- how many arguments a verb has
abbrev pub LawfulNumber : Verb → ℕ → Type 0
LawfulNumber Ping n = n ≤ 1
LawfulNumber Echo n = n ≡ 1
LawfulNumber Select n = n ≡ 1
LawfulNumber Quit n = Unit {0}
-- a key, and fields with their values
LawfulNumber Hset n = (3 ≤ n) × (n % 2 ≡ 1)
LawfulNumber Hsetnx n = n ≡ 3
LawfulNumber Hget n = n ≡ 2
LawfulNumber Hmget n = 2 ≤ n
LawfulNumber Hgetall n = n ≡ 1
LawfulNumber Hdel n = 2 ≤ n
LawfulNumber Hlen n = n ≡ 1
LawfulNumber Hexists n = n ≡ 2
LawfulNumber Hincrby n = n ≡ 3
LawfulNumber Hkeys n = n ≡ 1
LawfulNumber Hvals n = n ≡ 1
LawfulNumber Del n = 1 ≤ n
LawfulNumber Exists n = 1 ≤ n
LawfulNumber TypeOf n = n ≡ 1
LawfulNumber Dbsize n = n ≡ 0
LawfulNumber Rename n = n ≡ 2
LawfulNumber Flushall n = n ≤ 1
LawfulNumber DropIndex n = (1 ≤ n) × (n ≤ 2)
LawfulNumber ListIndexes n = n ≡ 0
LawfulNumber Info n = n ≡ 1
LawfulNumber TagVals n = n ≡ 2
LawfulNumber Debug n = n ≡ 2

-- a row of the table lets through lawful numbers of arguments alone, which are the words but the name
abbrev pub IsLawfulForm : Form → Type 0
IsLawfulForm (Between verb least most) = (n : ℕ) → least ≤ n + 1 → n + 1 ≤ most → LawfulNumber verb n
IsLawfulForm (AtLeast verb least) = (n : ℕ) → least ≤ n + 1 → LawfulNumber verb n
IsLawfulForm (InPairs verb least) = (n : ℕ) → least ≤ n + 1 → (n + 1) % 2 ≡ 0 → LawfulNumber verb n
IsLawfulForm (Create least) = 5 ≤ least
IsLawfulForm (Alter least) = 6 ≤ least
IsLawfulForm (form.Search least) = 3 ≤ least
IsLawfulForm (form.Aggregate least) = 3 ≤ least
IsLawfulForm (form.Cursor least) = 4 ≤ least

-- HINCRBY's increment is a number
abbrev pub HasNumber : Verb → List (List ℕ) → Type 0
HasNumber Hincrby args = IsSome (int_of (slice_index_or args 2 []))
HasNumber _ args = Unit {0}

-- The arguments of a plain command are lawful.
pub record Lawful (verb : Verb) (args : List (List ℕ)) : Type 0 where
  pub number : LawfulNumber verb (length args)
  pub increment : HasNumber verb args

-- What is asked is made of these words: a plain command's arguments are lawful, the fields of a schema keep its limits, a
-- search and an aggregate are lawful, and so are a cursor's id and the rows of a read.
abbrev pub IsLawful : List (List ℕ) → Asked → Type 0
IsLawful words (Plain verb args) = (args ≡ drop 1 words) × Lawful verb args
IsLawful words (CreateIndex index) = AreLawful index.fields
IsLawful words (AlterIndex index fields) = (index ≡ slice_index_or words 1 []) × AreLawful fields
IsLawful words (Search what) = IsLawfulSearch words what
IsLawful words (Aggregate what) = IsLawfulAggregate words what
IsLawful words (CursorRead index id count) = (index ≡ slice_index_or words 2 []) × IsId id × IfSome count IsCount
IsLawful words (CursorDel index id) = (index ≡ slice_index_or words 2 []) × IsId id

-- an index that is created has this serial
abbrev pub HasSerial : ℕ → Asked → Type 0
HasSerial serial (CreateIndex index) = index.serial ≡ serial
HasSerial serial _ = Unit {0}
