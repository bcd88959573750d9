-- What becomes of an index while a document is written.
use Rattle.std.specs.Prelude.{◌≡◌, ℕ, List, [], ◌∷◌, ◌++◌, Option, Some, None, nat_eq}
use Rattle.std.specs.Map.{remove_entry}
use Rattle.ft_base.specs.Docs.{Doc}
use Rattle.ft_index.specs.Fits.{fit_of}
use Rattle.ft_index.specs.Index.{Index, Indexes, committed}

-- A document was tried by the index, which will stand for it too once it is committed.
pub record Awaits (space : List Doc) (doc : Doc) (index : Index) : Type 0 where
  pub waits : index.waits ≡ Some (record { id = doc.id; fit = fit_of index.def doc })
  pub seen : Indexes (committed index) (space ++ doc ∷ [])

-- the index without the document of an id, where there is one
abbrev pub killed : Option ℕ → Index → Index
killed None index = index
killed (Some id) index = record index { table = record index.table { live = remove_entry (nat_eq id) index.table.live } }

-- the index once the document that waits is committed, and the one that it replaces is not live
abbrev pub settled : Option ℕ → Index → Index
settled replaced index = killed replaced (committed index)
