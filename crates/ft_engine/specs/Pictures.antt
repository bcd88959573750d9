-- The pictures that an engine's scans give, one for each list of a snapshot, and what its scans and splices are of them.
use Rattle.std.specs.Coded.{Coded, codes}
use Rattle.std.specs.Prelude.{◌≡◌, ℕ, zero, suc, List, [], ◌∷◌, ◌++◌, length, Bool, true, Option, Some, None, IfSome}
use Rattle.doc_table.specs.Pages.{has_id}
use Rattle.ft_index.specs.Snapshots.{list_at, pictured}
use Rattle.ft_index.specs.declared.repairs.AnyRepair.{AnyRepair}
use Rattle.ft_index.specs.declared.repairs.AnyRepair.TheVariants as repairs
use Rattle.ft_index.specs.contracts.snapshots.Snapshot as row
use Rattle.ft_index.specs.declared.snapshots.AnyPicture.{AnyPicture}
use Rattle.ft_index.specs.declared.snapshots.AnyPicture.TheVariants as pictures
use Rattle.ft_index.specs.declared.snapshots.NamedPicture.{NamedPicture}
use Rattle.ft_index.specs.declared.snapshots.Snapshot.{Snapshot}
use Rattle.gc_splice.specs.Alive.{all_alive}
use Rattle.gc_splice.specs.Repaired.{repaired}
use Rattle.gc_splice.specs.declared.splice.Spliced.{Spliced}
use Rattle.history_core.specs.Entries.{Scanned, Taken, NoIndex, NoMemory}
use Rattle.history_core.specs.Histories.{at}
use Rattle.id_iters.specs.declared.list_name.ListName.{ListName}
use Rattle.id_iters.specs.declared.list_name.ListName.TheVariants as names
use Rattle.indexed_store.specs.Repairing.{IndexesThin}
use Rattle.inverted_list.specs.Blocks.{entries}
use Rattle.picture_laws.specs.Picturing.{IsGood, Pictured}
use Rattle.ft_engine.specs.Stands.{IsIndexed, Stands}
use Rattle.ft_engine.specs.Stepping.{KeepsLast, ScansAt, SplicesAt, counted}

-- A list of a snapshot, by its place there.
pub record Shown : Type 0 where
  pub snapshot : Snapshot
  pub place : ℕ

-- it is stored as its fields are
pub shown_code : Coded Shown
shown_code = Prim.hlevel (codes, row.the_row.coded)

-- the first lists of a snapshot
abbrev pub shown_first : Snapshot → ℕ → List Shown
shown_first snapshot zero = []
shown_first snapshot (suc count) = shown_first snapshot count ++ record { snapshot = snapshot; place = count } ∷ []

-- all of them
abbrev pub shown_in : Snapshot → List Shown
shown_in snapshot = shown_first snapshot (length snapshot.lists)

-- the picture itself, and its list's name
abbrev pub named_at : Shown → Option NamedPicture
named_at shown = at shown.snapshot.lists shown.place

abbrev pub name_in : Option NamedPicture → ListName
name_in None = names.Word []
name_in (Some named) = named.name

abbrev pub name_at : Shown → ListName
name_at shown = name_in (named_at shown)

-- whether all entries of a picture are of these ids
abbrev pub all_in : (ℕ → Bool) → AnyPicture → Bool
all_in live (pictures.Word picture) = all_alive live (entries picture)
all_in live (pictures.Tag picture) = all_alive live (entries picture)
all_in live (pictures.Range picture) = all_alive live (entries picture)

-- a picture has no entry that was dead at its scan
abbrev pub IsCleanShown : Shown → Type 0
IsCleanShown shown = IfSome (named_at shown) (λ named. all_in (has_id shown.snapshot.live) named.picture ≡ true)

-- a name is one of lists of a picture's kind
abbrev pub IsOfKind : ListName → AnyPicture → Type 0
IsOfKind (names.Word text) (pictures.Word picture) = Unit {0}
IsOfKind (names.Tag field text) (pictures.Tag picture) = Unit {0}
IsOfKind (names.Range field low) (pictures.Range picture) = Unit {0}
IsOfKind name picture = ⊥

-- a repair is that of a picture
abbrev pub RepairsPicture : (ℕ → Bool) → AnyPicture → AnyRepair → Type 0
RepairsPicture live (pictures.Word picture) (repairs.Word repair) = repair ≡ repaired live picture
RepairsPicture live (pictures.Tag picture) (repairs.Tag repair) = repair ≡ repaired live picture
RepairsPicture live (pictures.Range picture) (repairs.Range repair) = repair ≡ repaired live picture
RepairsPicture live picture repair = ⊥

abbrev pub RepairsAt : (ℕ → Bool) → Option NamedPicture → AnyRepair → Type 0
RepairsAt live None repair = ⊥
RepairsAt live (Some named) repair = RepairsPicture live named.picture repair

abbrev pub RepairsShown : Shown → AnyRepair → Type 0
RepairsShown shown repair = RepairsAt (has_id shown.snapshot.live) (named_at shown) repair

-- A picture is one of those that were taken of an index in an event, and these are good now.
pub record IsGoodNamed (snapshot : Snapshot) (named : NamedPicture) (engine : Stands) : Type 0 where
  pub taken : Pictured
  pub good : IsGood taken engine.next engine.indexes
  pub serial : taken.serial ≡ snapshot.serial
  pub live : taken.live ≡ has_id snapshot.live
  pub list : list_at taken.lists named.name ≡ Some (pictured named.picture)

abbrev pub IsGoodShown : Shown → Stands → Type 0
IsGoodShown shown engine = (named : NamedPicture) → named_at shown ≡ Some named → IsGoodNamed shown.snapshot named engine

-- a scan, by what it took
abbrev pub ScansBy : Stands → List ℕ → Scanned Snapshot → Stands → Type 0
ScansBy old index (Taken snapshot) new = ScansAt index old (Some snapshot) × (new ≡ counted old) × IsIndexed new
ScansBy old index NoIndex new = ScansAt index old None × (new ≡ counted old) × IsIndexed new
ScansBy old index NoMemory new = new ≡ counted old

-- a splice of the repair of a picture
pub record SplicesBy (old : Stands) (shown : Shown) (outcome : Spliced) (new : Stands) : Type 0 where
  pub named : NamedPicture
  pub is : named_at shown ≡ Some named
  pub kind : IsOfKind named.name named.picture
  pub repair : AnyRepair
  pub repairs : RepairsPicture (has_id shown.snapshot.live) named.picture repair
  pub splices : SplicesAt shown.snapshot.serial named.name repair old new outcome
  pub state : new.state ≡ old.state
  pub next : new.next ≡ (counted old).next
  pub thin : IndexesThin old.indexes new.indexes
  pub kept : KeepsLast repair outcome new
  pub indexed : IsIndexed new
