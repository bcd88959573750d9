-- What a contract sees of one index, and which documents it stands for.
use Rattle.std.specs.Prelude.{◌≡◌, ◌≢◌, ◌≤◌, ℕ, List, [], ◌∷◌, ◌++◌, Bool, Option, Some, None, nat_eq}
use Rattle.std.specs.Map.{remove_entry}
use Rattle.std.specs.Option.{option_map}
use Rattle.doc_table.specs.Table.{Table, Vector}
use Rattle.ft_base.specs.declared.definition.IndexDef.{IndexDef}
use Rattle.ft_base.specs.Docs.{Doc}
use Rattle.ft_meaning.specs.Member.{members, most_failures, one_more}
use Rattle.ft_index.specs.Has.{Has}
use Rattle.ft_index.specs.Lists.{AllLists, has_id}
use Rattle.ft_index.specs.Kept.{AreKept}
use Rattle.ft_index.specs.declared.ready.Fit.{Fit}
use Rattle.ft_index.specs.declared.ready.Fit.TheVariants.{Member, NoPrefix, Failed}
use Rattle.ft_index.specs.declared.ready.Ready.{Ready}
use Rattle.ft_index.specs.Without.{without}

pub record Index : Type 0 where
  pub def : IndexDef
  -- the documents that are members
  pub table : Table
  -- the posting lists of their words, of their tags and of their numbers
  pub lists : AllLists
  -- the document that was prepared last, until it is committed
  pub waits : Option Ready
  -- how often a document failed to be a member
  pub failures : ℕ

-- The index stands for documents: its live ids are those of the members among them, and so are the live entries of its
-- lists.
abbrev pub Indexes : Index → List Doc → Type 0
Indexes index docs = Has index.def index.table.live index.lists (members index.def docs)

-- It stands on for whatever it stood for,
abbrev pub StandsOn : Index → Index → Type 0
StandsOn old new = (docs : List Doc) → Indexes old docs → Indexes new docs

-- for a document beside it,
abbrev pub StandsBeside : Doc → Index → Index → Type 0
StandsBeside doc old new = (docs : List Doc) → Indexes old docs → Indexes new (docs ++ doc ∷ [])

-- or for all but that of an id.
abbrev pub StandsWithout : ℕ → Index → Index → Type 0
StandsWithout id old new = (docs : List Doc) → Indexes old docs → Indexes new (without id docs)

-- whether an id is live
abbrev pub is_live : Index → ℕ → Bool
is_live index id = has_id index.table.live id

-- the index once an id is taken out of its documents
abbrev pub killed : ℕ → Index → Index
killed id index = record index { table = record index.table { live = remove_entry (nat_eq id) index.table.live } }

-- a document that is no member changes nothing but that it waits
abbrev pub OnlyWaits : Ready → Index → Index → Type 0
OnlyWaits ready old new = ready.fit ≢ Member → new ≡ record old { waits = Some ready }

-- the table once the document that waits is live
abbrev pub commits : Option (ℕ × Vector) → Table → Table
commits None table = table
commits (Some row) table = record table { live = table.live ++ row ∷ []; ready = None }

-- A document that waits becomes live where it is a member, and is counted where it fails to be.
abbrev pub commits_as : Fit → Index → Index
commits_as Member index = record index { table = commits index.table.ready index.table }
commits_as NoPrefix index = index
commits_as Failed index = record index { failures = one_more index.failures }

abbrev pub commits_ready : Option Ready → Index → Index
commits_ready None index = index
commits_ready (Some ready) index = commits_as ready.fit (record index { waits = None })

-- the index once the document that waits is committed
abbrev pub committed : Index → Index
committed index = commits_ready index.waits index

-- a member that waits is the one for which the table has room
abbrev pub WaitsIn : Option Ready → Table → Type 0
WaitsIn None table = Unit {0}
WaitsIn (Some ready) table = ready.fit ≡ Member → option_map (λ (row : ℕ × Vector). row.0) table.ready ≡ Some ready.id

-- What holds of every index.
pub record IsIndex (index : Index) : Type 0 where
  pub kept : AreKept index.table index.lists
  pub waits : WaitsIn index.waits index.table
  pub counted : index.failures ≤ most_failures
