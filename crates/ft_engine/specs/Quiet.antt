-- Which commands change no document and no definition.
use Rattle.std.specs.Prelude.{◌≡◌, false}
use Rattle.cmd_parse.specs.Asked.{Asked, Plain, Search, Aggregate, CursorRead, CursorDel}
use Rattle.cmd_parse.specs.declared.command.Verb.{Verb}
use Rattle.cmd_parse.specs.declared.command.Verb.TheVariants.{Hset, Hsetnx, Hdel, Hincrby, Rename, Del, Flushall, DropIndex, Debug}
use Rattle.indexed_store.specs.Changing.{is_write}
use Rattle.indexed_store.specs.declared.change.Change.{Change}
use Rattle.indexed_store.specs.declared.change.Change.TheVariants.{Nothing}

-- neither a document nor a definition changes
abbrev pub IsQuiet : Change → Type 0
IsQuiet change = is_write change ≡ false

-- a search and an aggregate change cursors at most, and so do the reads of cursors; FT.DEBUG leaves nothing to be changed
abbrev pub IsQuietFor : Asked → Change → Type 0
IsQuietFor (Search what) change = IsQuiet change
IsQuietFor (Aggregate what) change = IsQuiet change
IsQuietFor (CursorRead index id count) change = IsQuiet change
IsQuietFor (CursorDel index id) change = IsQuiet change
IsQuietFor (Plain Debug args) change = change ≡ Nothing
IsQuietFor _ change = Unit {0}

-- a plain command that only reads
abbrev pub ChangesNothing : Verb → Type 0
ChangesNothing Hset = ⊥
ChangesNothing Hsetnx = ⊥
ChangesNothing Hdel = ⊥
ChangesNothing Hincrby = ⊥
ChangesNothing Rename = ⊥
ChangesNothing Del = ⊥
ChangesNothing Flushall = ⊥
ChangesNothing DropIndex = ⊥
ChangesNothing Debug = ⊥
ChangesNothing _ = Unit {0}
