-- Indexes whose lists have no dead entry.
use Rattle.std.specs.Prelude.{ℕ, List, IfSome}
use Rattle.std.specs.List.{find}
use Rattle.ft_index.specs.Index.{Index, is_live}
use Rattle.ft_index.specs.Thinned.{ListsLive}
use Rattle.indexed_store.specs.Named.{is_named}

-- Each entry of each list of an index is of a live id.
abbrev pub IsClean : Index → Type 0
IsClean index = ListsLive (is_live index) index.lists

-- the same of the index of a name, where there is one
abbrev pub IsCleanAt : List ℕ → List Index → Type 0
IsCleanAt name indexes = IfSome (find (is_named name) indexes) IsClean
