-- What a command asks (Redis and RediSearch).
use Rattle.std.specs.Prelude.{ℕ, List, Option}
use Rattle.ft_base.specs.declared.definition.Field.{Field}
use Rattle.ft_base.specs.declared.definition.IndexDef.{IndexDef}
use Rattle.cmd_parse.specs.Aggregating.{Aggregating}
use Rattle.cmd_parse.specs.Searching.{Searching}
use Rattle.cmd_parse.specs.declared.command.Verb.{Verb}

-- A plain command has the words behind its name as arguments. A read of a cursor gives as many rows as it counts, or else as
-- many as the cursor was opened with.
pub data Asked : Type 0 where
  Plain : (verb : Verb) → (args : List (List ℕ)) → Asked
  CreateIndex : (index : IndexDef) → Asked
  AlterIndex : (index : List ℕ) → (fields : List Field) → Asked
  Search : (what : Searching) → Asked
  Aggregate : (what : Aggregating) → Asked
  CursorRead : (index : List ℕ) → (id : ℕ) → (count : Option ℕ) → Asked
  CursorDel : (index : List ℕ) → (id : ℕ) → Asked
