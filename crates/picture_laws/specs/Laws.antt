-- The laws of pictures, over any event that leaves of the indexes what an event leaves of them.
use Rattle.std.specs.Prelude.{◌≡◌, ◌<◌, ◌≤◌, ℕ, List, Bool, Option, Some}
use Rattle.std.specs.List.{All, AllPairs, Contains}
use Rattle.ft_base.specs.Docs.{Doc}
use Rattle.gc_splice.specs.Repaired.{repaired}
use Rattle.gc_splice.specs.declared.repair.Repair.{Repair}
use Rattle.id_iters.specs.declared.list_name.ListName.{ListName}
use Rattle.id_iters.specs.declared.list_name.ListName.TheVariants as names
use Rattle.inverted_list.specs.Blocks.{listing}
use Rattle.inverted_list.specs.Listing.{Listing}
use Rattle.inverted_list.specs.declared.marker.Marker.{Marker}
use Rattle.inverted_list.specs.declared.picture.Picture.{Picture}
use Rattle.term_dict.specs.Tags.{list_in}
use Rattle.term_dict.specs.Terms.{list_of}
use Rattle.ft_index.specs.Index.{Index, is_live}
use Rattle.ft_index.specs.Lists.{list_from, rows_of}
use Rattle.ft_index.specs.Splicing.{FitsName}
use Rattle.ft_index.specs.declared.repairs.AnyRepair.{AnyRepair}
use Rattle.ft_index.specs.declared.repairs.AnyRepair.TheVariants as repairs
use Rattle.indexed_store.specs.Moving.{IndexesMove}
use Rattle.indexed_store.specs.Standing.{AreApart, IndexStands, markers_at}
use Rattle.picture_laws.specs.Picturing.{IsGood, IsSpent, Pictured}

-- an index as it is, pictured whole in the event of this number
abbrev pub pictured : ℕ → Index → Pictured
pictured number index = record { number = number; serial = index.def.serial; lists = index.lists; live = is_live index }

-- What is pictured in an event is good behind it.
abbrev pub GoodWhenTaken : Type 0
GoodWhenTaken = (next later : ℕ) (space : List Doc) (indexes : List Index) (index : Index) → next ≤ later
    → All (IndexStands space next (markers_at next)) indexes → AllPairs AreApart indexes → Contains indexes index → IsGood (pictured next index) later indexes

-- A good picture stays good, whatever event comes.
abbrev pub StaysGood : Type 0
StaysGood = (k : Pictured) (next later : ℕ) (olds news : List Index) → next ≤ later → IndexesMove next olds news → IsGood k next olds → IsGood k later news

-- A marker of an earlier event that no list of an index has any more comes to none again.
abbrev pub StaysSpent : Type 0
StaysSpent = (serial next : ℕ) (marker : Marker) (olds news : List Index) → marker.event < next → IndexesMove next olds news → IsSpent serial marker olds → IsSpent serial marker news

-- a repair is that of a pictured list: without the entries that were dead then
abbrev pub RepairsList : {P : Type 0} → (ℕ → Bool) → Option (Listing P) → Repair P → Type 0
RepairsList {P} live then repair = (p : Picture P) × (then ≡ Some (listing p)) × (repair ≡ repaired live p)

-- a repair is that of the pictured list of a name
abbrev pub RepairsName : Pictured → ListName → AnyRepair → Type 0
RepairsName k (names.Word text) (repairs.Word repair) = RepairsList k.live (list_of k.lists.words text) repair
RepairsName k (names.Tag field text) (repairs.Tag repair) = RepairsList k.live (list_in k.lists.tags field text) repair
RepairsName k (names.Range field low) (repairs.Range repair) = RepairsList k.live (list_from (rows_of k.lists.ranges field) low) repair
RepairsName k (names.Word text) (repairs.Tag repair) = ⊥
RepairsName k (names.Word text) (repairs.Range repair) = ⊥
RepairsName k (names.Tag field text) (repairs.Word repair) = ⊥
RepairsName k (names.Tag field text) (repairs.Range repair) = ⊥
RepairsName k (names.Range field low) (repairs.Word repair) = ⊥
RepairsName k (names.Range field low) (repairs.Tag repair) = ⊥

-- The repair of a good picture's list fits the list of its name as it is now: a splice takes nothing that is live.
abbrev pub FitsGood : Type 0
FitsGood = (k : Pictured) (next : ℕ) (indexes : List Index) (index : Index) (name : ListName) (repair : AnyRepair) → IsGood k next indexes → Contains indexes index
    → index.def.serial ≡ k.serial → RepairsName k name repair → FitsName (is_live index) index.lists name repair
