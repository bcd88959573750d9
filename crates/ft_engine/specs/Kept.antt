-- What an engine keeps of the scans and splices of its history.
use Rattle.std.specs.Prelude.{◌≡◌, ℕ, List, [], ◌∷◌, ◌++◌, Option, None, Some, Ok, Err}
use Rattle.std.specs.declared.result.Result.{Result}
use Rattle.ft_index.specs.declared.snapshots.NamedPicture.{NamedPicture}
use Rattle.ft_index.specs.declared.snapshots.Snapshot.{Snapshot}
use Rattle.gc_splice.specs.declared.splice.Spliced.{Spliced}
use Rattle.history_core.specs.Entries.{Exec, NoIndex, NoMemory, Scan, Scanned, Splice, Taken}
use Rattle.history_core.specs.Histories.{at}
use Rattle.history_core.specs.Pictures.{Pictured}
use Rattle.id_iters.specs.declared.list_name.ListName.{ListName}
use Rattle.ft_engine.specs.Entries.{Entry, marker_of}
use Rattle.ft_engine.specs.Pictures.{IsGoodShown}
use Rattle.ft_engine.specs.Stands.{Stands}

-- what a scan came to, by its answer
abbrev pub scanned : {K E : Type 0} → Result (Option K) E → Scanned K
scanned (Ok (Some snapshot)) = Taken snapshot
scanned (Ok None) = NoIndex
scanned (Err fault) = NoMemory

-- each picture of a snapshot is good now
abbrev pub IsGoodSnapshot : Snapshot → Stands → Type 0
IsGoodSnapshot snapshot engine = (list : ℕ) → IsGoodShown (record { snapshot = snapshot; place = list }) engine

-- what a scan took is good now
abbrev pub HoldsTaken : Scanned Snapshot → Stands → Type 0
HoldsTaken (Taken snapshot) engine = IsGoodSnapshot snapshot engine
HoldsTaken NoIndex engine = Unit {0}
HoldsTaken NoMemory engine = Unit {0}

-- what is kept of an entry of a history: the pictures that a scan took stay good
abbrev pub Holds : Stands → List Entry → Entry → Type 0
Holds engine before (Exec caller moment words reply) = Unit {0}
Holds engine before (Scan caller index result) = HoldsTaken result engine
Holds engine before (Splice caller scan name answer) = Unit {0}

-- The splice that an engine keeps is one of a pictured list of this name, and came to this answer.
pub record IsLastSplice (engine : Stands) (before : List Entry) (scan : ℕ) (name : ListName) (answer : Spliced) : Type 0 where
  pub snapshot : Snapshot
  pub pictured : Pictured before scan snapshot
  pub place : ℕ
  pub named : NamedPicture
  pub there : at snapshot.lists place ≡ Some named
  pub called : named.name ≡ name
  pub last : engine.last ≡ Some (record { seen = marker_of named.picture; answer = answer })

-- an entry that is a splice is the one that the engine keeps
abbrev pub HoldsEnd : Stands → List Entry → Entry → Type 0
HoldsEnd engine before (Exec caller moment words reply) = Unit {0}
HoldsEnd engine before (Scan caller index result) = Unit {0}
HoldsEnd engine before (Splice caller scan name answer) = IsLastSplice engine before scan name answer

-- the same of the last of an entry and others, behind those before them
abbrev pub HoldsBehind : Stands → List Entry → Entry → List Entry → Type 0
HoldsBehind engine before entry [] = HoldsEnd engine before entry
HoldsBehind engine before entry (next ∷ entries) = HoldsBehind engine (before ++ entry ∷ []) next entries

-- where the last entry of a history is a splice, it is the one that the engine keeps
abbrev pub HoldsLast : Stands → List Entry → Type 0
HoldsLast engine [] = Unit {0}
HoldsLast engine (entry ∷ entries) = HoldsBehind engine [] entry entries
