-- What a scan gives of the index of a name, and what the splice of a repair makes of the index of a serial.
use Rattle.std.specs.Prelude.{◌≡◌, ℕ, List, [], ◌∷◌, Option, None, Some, IfSome}
use Rattle.std.specs.List.{find}
use Rattle.ft_index.specs.Index.{Index, is_live}
use Rattle.ft_index.specs.Snapshots.{IsSnapshot, PicturesAll}
use Rattle.ft_index.specs.Splicing.{FitsName, SplicesName}
use Rattle.ft_index.specs.Thinned.{ListsThin}
use Rattle.ft_index.specs.declared.repairs.AnyRepair.{AnyRepair}
use Rattle.ft_index.specs.declared.snapshots.Snapshot.{Snapshot}
use Rattle.gc_splice.specs.declared.splice.Spliced.{Spliced}
use Rattle.gc_splice.specs.declared.splice.Spliced.TheVariants.{Gone}
use Rattle.id_iters.specs.declared.list_name.ListName.{ListName}
use Rattle.inverted_list.specs.declared.marker.Marker.{Marker}
use Rattle.indexed_store.specs.Named.{has_serial, is_named, with_serial}

-- A snapshot of an index at the number of an event, with a picture of every list.
pub record ShowsWhole (index : Index) (event : ℕ) (snapshot : Snapshot) : Type 0 where
  pub is : IsSnapshot index event snapshot
  pub every : PicturesAll index.lists snapshot

-- a snapshot of the index, exactly where there is one
abbrev pub ScansIndex : Option Index → ℕ → Option Snapshot → Type 0
ScansIndex None event taken = taken ≡ None
ScansIndex (Some index) event None = ⊥
ScansIndex (Some index) event (Some snapshot) = ShowsWhole index event snapshot

-- The index of a name is pictured at the number of an event, and nothing is exactly where there is no such index.
abbrev pub ScansNamed : List ℕ → List Index → ℕ → Option Snapshot → Type 0
ScansNamed name indexes event taken = ScansIndex (find (is_named name) indexes) event taken

-- the marker that an event gives the one list that it splices
abbrev pub splice_marker : ℕ → Marker
splice_marker event = record { event = event; nth = 0 }

-- A repair fits the list of a name in the index of a serial, where there is the index: nothing goes that is live.
abbrev pub FitsSerial : ℕ → List Index → ListName → AnyRepair → Type 0
FitsSerial serial indexes name repair = IfSome (find (has_serial serial) indexes) (λ index. FitsName (is_live index) index.lists name repair)

-- A repair was laid over the list of a name in an index, of which nothing else changed.
pub record SplicesIndex (name : ListName) (repair : AnyRepair) (marker : Marker) (old new : Index) (outcome : Spliced) : Type 0 where
  pub splices : SplicesName name repair marker old.lists new.lists outcome
  pub rest : new ≡ record old { lists = new.lists }

-- The same in the index of a serial, where there is one. Each other index is what it was.
abbrev pub SplicesFound : Option Index → ℕ → ListName → AnyRepair → Marker → List Index → List Index → Spliced → Type 0
SplicesFound None serial name repair marker olds news outcome = (outcome ≡ Gone) × (news ≡ olds)
SplicesFound (Some old) serial name repair marker olds news outcome =
    (new : Index) × (news ≡ with_serial olds serial new) × SplicesIndex name repair marker old new outcome

-- A repair was laid over the list of a name in the index of a serial. Where there is no such index, nothing changed.
abbrev pub SplicesSerial : ℕ → ListName → AnyRepair → Marker → List Index → List Index → Spliced → Type 0
SplicesSerial serial name repair marker olds news outcome =
    SplicesFound (find (has_serial serial) olds) serial name repair marker olds news outcome

-- Each index has its lists, but for entries of ids that are not live there.
abbrev pub IndexesThin : List Index → List Index → Type 0
IndexesThin [] [] = Unit {0}
IndexesThin [] (new ∷ news) = ⊥
IndexesThin (old ∷ olds) [] = ⊥
IndexesThin (old ∷ olds) (new ∷ news) = ListsThin (is_live old) old.lists new.lists × IndexesThin olds news
