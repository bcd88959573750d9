-- What the scan of a part gives of the index of a name.
use Rattle.std.specs.Prelude.{◌≡◌, ℕ, List, Option, None, Some}
use Rattle.std.specs.List.{find}
use Rattle.ft_index.specs.Index.{Index}
use Rattle.ft_index.specs.Parting.{PicturesPart}
use Rattle.ft_index.specs.Snapshots.{IsSnapshot}
use Rattle.ft_index.specs.declared.snapshots.Snapshot.{Snapshot}
use Rattle.indexed_store.specs.Named.{is_named}

-- A snapshot of an index at the number of an event, with pictures of a part of its lists.
pub record ShowsPart (index : Index) (event : ℕ) (snapshot : Snapshot) : Type 0 where
  pub is : IsSnapshot index event snapshot
  pub part : PicturesPart index.lists snapshot.lists

-- a snapshot of a part of the index, exactly where there is one
abbrev pub ScansPartOf : Option Index → ℕ → Option Snapshot → Type 0
ScansPartOf None event taken = taken ≡ None
ScansPartOf (Some index) event None = ⊥
ScansPartOf (Some index) event (Some snapshot) = ShowsPart index event snapshot

-- A part of the index of a name is pictured at the number of an event, and nothing is exactly where there is no such index.
abbrev pub ScansPart : List ℕ → List Index → ℕ → Option Snapshot → Type 0
ScansPart name indexes event taken = ScansPartOf (find (is_named name) indexes) event taken
