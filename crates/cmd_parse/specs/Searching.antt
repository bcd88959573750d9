-- What a search asks (RediSearch, FT.SEARCH).
use Rattle.std.specs.Prelude.{ℕ, List, [], ◌∷◌, length, ◌-◌, Bool, true, false, ◌||◌, unwrap_or, Option, Some, None, Result, Ok, Err}
use Rattle.ft_base.specs.declared.query.Param.{Param}
use Rattle.cmd_parse.specs.Filters.{Filter}
use Rattle.cmd_parse.specs.Options.{Sort}
use Rattle.cmd_parse.specs.Given.{Given}
use Rattle.cmd_parse.specs.Search.{options_at}
use Rattle.cmd_parse.specs.Words.{Word}
use Rattle.cmd_parse.specs.declared.command.CmdFault.{CmdFault}
use Rattle.cmd_parse.specs.declared.command.CmdFault.TheVariants.{Arity, Syntax, Limit, OutOfScope, NoMemory}
use Rattle.cmd_parse.specs.declared.stop.Cause.{Cause}
use Rattle.cmd_parse.specs.declared.stop.Cause.TheVariants as causes
use Rattle.cmd_parse.specs.declared.stop.Stop.{Stop}
use Rattle.cmd_parse.specs.declared.stop.Stop.TheVariants as stops

pub record Searching : Type 0 where
  pub index : Word
  pub query : Word
  -- whether documents are shown by their keys alone
  pub no_content : Bool
  -- the fields that are shown, where they are named
  pub fields : Option (List Word)
  -- the keys that count, where they are named
  pub keys : Option (List Word)
  pub filters : List Filter
  pub sort : Option Sort
  -- the place of the first row that is shown, counted from 0, and how many are shown at the most
  pub offset : ℕ
  pub num : ℕ
  -- the values of the query's parameters
  pub params : List Param

-- whether RETURN names no field, so that none is shown
abbrev pub names_none : Option (List Word) → Bool
names_none None = false
names_none (Some []) = true
names_none (Some (name ∷ names)) = false

-- the rows that are shown where LIMIT does not say
abbrev pub first_ten : ℕ × ℕ
first_ten = (0, 10)

-- A search by its options.
abbrev pub searching_of : Word → Word → Given → Searching
searching_of index query given = record {
  index = index;
  query = query;
  no_content = given.no_content || names_none given.fields;
  fields = given.fields;
  keys = given.keys;
  filters = given.filters;
  sort = given.sort;
  offset = (unwrap_or given.window first_ten).0;
  num = (unwrap_or given.window first_ten).1;
  params = unwrap_or given.params [];
}

-- the fault at a word's number
abbrev pub fault_at : Cause → ℕ → CmdFault
fault_at causes.Syntax at = Syntax at
fault_at causes.Limit at = Limit at
fault_at causes.OutOfScope at = OutOfScope at

-- A fault is placed by the number of all words, of which so many are left.
abbrev pub placed : ℕ → Stop → CmdFault
placed total stops.NoMemory = NoMemory
placed total (stops.Fault cause left) = fault_at cause (total - left)

-- a search of this index and query, by its options or their fault, in a command of `total` words
abbrev pub search_with : ℕ → Word → Word → Result Given Stop → Result Searching CmdFault
search_with total index query (Ok given) = Ok (searching_of index query given)
search_with total index query (Err stop) = Err (placed total stop)

-- The words of FT.SEARCH, its name among them.
abbrev pub search : List Word → Result Searching CmdFault
search (name ∷ index ∷ query ∷ options) =
    search_with (length (name ∷ index ∷ query ∷ options)) index query (options_at (length (name ∷ index ∷ query ∷ options)) options)
search _ = Err Arity
