-- What the splice of a repair makes of the lists of an index.
use Rattle.std.specs.Prelude.{◌≡◌, ◌≢◌, ◌-◌, ◌⊎◌, ℕ, ℤ, Bool, not, Option, Some, IfNone, IfSome, length}
use Rattle.std.specs.Option.{option_map}
use Rattle.gc_splice.specs.declared.repair.Repair.{Repair}
use Rattle.gc_splice.specs.declared.splice.Spliced.{Spliced}
use Rattle.gc_splice.specs.declared.splice.Spliced.TheVariants.{Done, Gone, Moved}
use Rattle.gc_splice.specs.Splice.{BlocksComeFirst, Fits, picture_of, spliced, tail_stands}
use Rattle.id_iters.specs.declared.list_name.ListName.{ListName}
use Rattle.id_iters.specs.declared.list_name.ListName.TheVariants as names
use Rattle.inverted_list.specs.declared.marker.Marker.{Marker}
use Rattle.inverted_list.specs.Listing.{Listing}
use Rattle.numeric_ranges.specs.Ranges.{Rows, with_list}
use Rattle.posting_block.specs.declared.hits.NumHit.{NumHit}
use Rattle.term_dict.specs.Splices.{SplicesTag, SplicesWord}
use Rattle.term_dict.specs.Tags.{list_in}
use Rattle.term_dict.specs.Terms.{list_of}
use Rattle.ft_index.specs.declared.repairs.AnyRepair.{AnyRepair}
use Rattle.ft_index.specs.declared.repairs.AnyRepair.TheVariants as repairs
use Rattle.ft_index.specs.Lists.{AllLists, list_from, rows_of}
use Rattle.ft_index.specs.Markers.{HasMarker, marker_at}

-- A repair fits a list, where there is the list and it has the marker that was pictured: nothing goes that is live.
abbrev pub FitsList : {P : Type 0} → (ℕ → Bool) → Repair P → Option (Listing P) → Type 0
FitsList live repair list = IfSome list (λ l. repair.seen ≡ l.marker → Fits live repair (picture_of l))

-- A repair is of the kind of a name, and fits the name's list.
abbrev pub FitsName : (ℕ → Bool) → AllLists → ListName → AnyRepair → Type 0
FitsName live lists (names.Word text) (repairs.Word repair) = FitsList live repair (list_of lists.words text)
FitsName live lists (names.Tag field text) (repairs.Tag repair) = FitsList live repair (list_in lists.tags field text)
FitsName live lists (names.Range field low) (repairs.Range repair) = FitsList live repair (list_from (rows_of lists.ranges field) low)
FitsName live lists (names.Word text) (repairs.Tag repair) = ⊥
FitsName live lists (names.Word text) (repairs.Range repair) = ⊥
FitsName live lists (names.Tag field text) (repairs.Word repair) = ⊥
FitsName live lists (names.Tag field text) (repairs.Range repair) = ⊥
FitsName live lists (names.Range field low) (repairs.Word repair) = ⊥
FitsName live lists (names.Range field low) (repairs.Tag repair) = ⊥

-- A repair was laid over the list of a range, where that has the marker that was pictured, and only there. The range stays.
pub record SplicesSlot (low : ℤ) (repair : Repair NumHit) (marker : Marker) (l : Listing NumHit) (old new : Option Rows) (outcome : Spliced) : Type 0 where
  pub moved : repair.seen ≢ l.marker → (new ≡ old) × (outcome ≡ Moved repair.seen l.marker)
  pub done : repair.seen ≡ l.marker → (new ≡ option_map (λ rows. with_list rows low (spliced l repair marker)) old)
      × (outcome ≡ Done (length l.entries - length (spliced l repair marker).entries) (not (tail_stands (picture_of l) repair)))
  pub blocks : repair.seen ≡ l.marker → BlocksComeFirst l

-- The list of a name is what the splice made of it, and each other list is what it was. Where there is no such list, nothing changed.
abbrev pub SplicesName : ListName → AnyRepair → Marker → AllLists → AllLists → Spliced → Type 0
SplicesName (names.Word text) (repairs.Word repair) marker old new outcome =
    (new ≡ record old { words = new.words }) × IfNone (list_of old.words text) ((outcome ≡ Gone) × (new.words ≡ old.words))
    × IfSome (list_of old.words text) (λ l. SplicesWord text repair marker l old.words new.words outcome)
SplicesName (names.Tag field text) (repairs.Tag repair) marker old new outcome =
    (new ≡ record old { tags = new.tags }) × IfNone (list_in old.tags field text) ((outcome ≡ Gone) × (new.tags ≡ old.tags))
    × IfSome (list_in old.tags field text) (λ l. SplicesTag field text repair marker l old.tags new.tags outcome)
SplicesName (names.Range field low) (repairs.Range repair) marker old new outcome =
    (new ≡ record old { ranges = new.ranges }) × ((other : ℕ) → other ≢ field → rows_of new.ranges other ≡ rows_of old.ranges other)
    × IfNone (list_from (rows_of old.ranges field) low) ((outcome ≡ Gone) × (rows_of new.ranges field ≡ rows_of old.ranges field))
    × IfSome (list_from (rows_of old.ranges field) low) (λ l. SplicesSlot low repair marker l (rows_of old.ranges field) (rows_of new.ranges field) outcome)
SplicesName name repair marker old new outcome = Unit {0}

-- no list has the marker
abbrev pub IsNew : Marker → AllLists → Type 0
IsNew marker lists = (name : ListName) → marker_at lists name ≢ Some marker

-- each list has a marker that one had before, or this one
abbrev pub GainsMarker : AllLists → AllLists → Marker → Type 0
GainsMarker old new given = (marker : Marker) → HasMarker new marker → HasMarker old marker ⊎ (marker ≡ given)
