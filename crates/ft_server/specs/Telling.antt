-- Which entries an engine stands for.
use Rattle.std.specs.Prelude.{◌≡◌, ◌≢◌, ◌<◌, ℕ, List, [], Some, false}
use Rattle.std.specs.List.{All, Contains}
use Rattle.ft_index.specs.Index.{Index}
use Rattle.ft_index.specs.Markers.{marker_at}
use Rattle.ft_index.specs.Snapshots.{NamesRise, names_of}
use Rattle.ft_index.specs.declared.snapshots.NamedPicture.{NamedPicture}
use Rattle.ft_index.specs.declared.snapshots.Snapshot.{Snapshot}
use Rattle.gc_splice.specs.declared.splice.Spliced.TheVariants.{LastEvent}
use Rattle.history_core.specs.Entries.{Exec, NoIndex, NoMemory, Scan, Scanned, Splice, Taken}
use Rattle.history_core.specs.Histories.{Each, number}
use Rattle.history_core.specs.Pictures.{Pictured}
use Rattle.id_iters.specs.declared.list_name.ListName.{ListName}
use Rattle.inverted_list.specs.declared.marker.Marker.{Marker}
use Rattle.ft_engine.specs.Entries.{Entry, marker_of}
use Rattle.ft_engine.specs.Kept.{Holds, HoldsLast}
use Rattle.ft_engine.specs.Stands.{IsIndexed, Stands}
use Rattle.ft_engine.specs.Cleaning.{StandsFor}

-- no list of this name has the marker in an index of this serial
abbrev pub LacksMarker : ℕ → ListName → Marker → List Index → Type 0
LacksMarker serial name marker indexes = All (λ (index : Index). index.def.serial ≡ serial → marker_at index.lists name ≢ Some marker) indexes

-- The marker is one of an earlier event, and no list of the name has it in an index of the serial: so none gets it again.
pub record IsSpent (serial : ℕ) (name : ListName) (marker : Marker) (engine : Stands) : Type 0 where
  pub past : marker.event < engine.next
  pub lacks : LacksMarker serial name marker engine.indexes

-- A splice is of the list of a name that an earlier scan pictured, and that list has the pictured marker no more.
pub record SpendsPicture (engine : Stands) (before : List Entry) (scan : ℕ) (name : ListName) : Type 0 where
  pub snapshot : Snapshot
  pub pictured : Pictured before scan snapshot
  pub spent : (named : NamedPicture) → Contains snapshot.lists named → named.name ≡ name → IsSpent snapshot.serial name (marker_of named.picture) engine

-- no list is pictured twice in what a scan took
abbrev pub NamesOnce : Scanned Snapshot → Type 0
NamesOnce (Taken snapshot) = NamesRise (names_of snapshot.lists)
NamesOnce NoIndex = Unit {0}
NamesOnce NoMemory = Unit {0}

-- what is kept of the markers that were pictured: a splice that was an event leaves none of them where it was
abbrev pub Spends : Stands → List Entry → Entry → Type 0
Spends engine before (Exec caller moment words reply) = Unit {0}
Spends engine before (Scan caller index result) = NamesOnce result
Spends engine before (Splice caller scan name answer) = answer ≢ LastEvent → SpendsPicture engine before scan name

-- The engine stands for these entries, the first of which has this number: they are a history that leads to its state and its
-- clean indexes, the next one has its number, and none is prepared. What scans pictured is good now, no list that was spliced has
-- the pictured marker again, and where the last entry is a splice, it is the one that the engine keeps.
pub record Tells (engine : Stands) (entries : List Entry) (first : ℕ) : Type 0 where
  pub history : StandsFor first entries engine
  pub next : engine.next ≡ number first entries
  pub free : engine.pending ≡ false
  pub indexed : IsIndexed engine
  pub holds : Each (Holds engine) [] entries
  pub spent : Each (Spends engine) [] entries
  pub last : HoldsLast engine entries
