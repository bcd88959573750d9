-- Lists of an index as they were pictured, and that they stand as they were or have grown since.
use Rattle.std.specs.Prelude.{◌≡◌, ◌<◌, ◌≤◌, ℕ, ℤ, Bool, true, List, Option, Some}
use Rattle.std.specs.List.{All, AllByRecursion}
use Rattle.gc_splice.specs.Growing.{Grows}
use Rattle.inverted_list.specs.Listing.{Listing}
use Rattle.inverted_list.specs.declared.marker.Marker.{Marker}
use Rattle.term_dict.specs.Tags.{list_in}
use Rattle.term_dict.specs.Terms.{list_of}
use Rattle.ft_index.specs.Index.{Index, is_live}
use Rattle.ft_index.specs.Lists.{AllLists, list_from, rows_of}
use Rattle.ft_index.specs.Markers.{HasMarker}

-- what was pictured of an index in an event
pub record Pictured : Type 0 where
  -- the number of the event
  pub number : ℕ
  -- the index's
  pub serial : ℕ
  -- the lists that were pictured: all, or some
  pub lists : AllLists
  -- which ids were live
  pub live : ℕ → Bool

-- no id of before the picture is live that was not
abbrev pub LiveWas : Pictured → Index → Type 0
LiveWas k index = (id : ℕ) → id < k.number → is_live index id ≡ true → k.live id ≡ true

-- the marker of a pictured list is one of before the picture, and so are its ids
pub record IsOld {P : Type 0} (number : ℕ) (p : Listing P) : Type 0 where
  pub marker : p.marker.event < number
  pub ids : AllByRecursion (λ e. e.0 < number) p.entries

module _ {P : Type 0} where
  -- where a pictured list still has its marker, it has grown at most, and the pictured ids that are live were live
  abbrev pub Follows : Pictured → Index → Option (Listing P) → Option (Listing P) → Type 0
  Follows k index then now = (p l : Listing P) → then ≡ Some p → now ≡ Some l → l.marker ≡ p.marker → Grows p l × LiveWas k index

  -- a list, where it was pictured, is one of before
  abbrev pub IsPast : ℕ → Option (Listing P) → Type 0
  IsPast number then = (p : Listing P) → then ≡ Some p → IsOld number p

-- each pictured list is one of before
pub record ArePast (number : ℕ) (lists : AllLists) : Type 0 where
  pub words : (word : List ℕ) → IsPast number (list_of lists.words word)
  pub tags : (field : ℕ) (tag : List ℕ) → IsPast number (list_in lists.tags field tag)
  pub ranges : (field : ℕ) (low : ℤ) → IsPast number (list_from (rows_of lists.ranges field) low)

-- Each pictured list stands in the index as it was, or has grown, or is gone: a list of another marker is another list.
pub record ListsFollow (k : Pictured) (index : Index) : Type 0 where
  pub words : (word : List ℕ) → Follows k index (list_of k.lists.words word) (list_of index.lists.words word)
  pub tags : (field : ℕ) (tag : List ℕ) → Follows k index (list_in k.lists.tags field tag) (list_in index.lists.tags field tag)
  pub ranges : (field : ℕ) (low : ℤ) → Follows k index (list_from (rows_of k.lists.ranges field) low) (list_from (rows_of index.lists.ranges field) low)

-- A picture is good among these indexes, before an event of this number: it is of an earlier event, and its lists follow into
-- the index of its serial, where there is one.
pub record IsGood (k : Pictured) (next : ℕ) (indexes : List Index) : Type 0 where
  pub past : k.number ≤ next
  pub lists : ArePast k.number k.lists
  pub follow : All (λ index. index.def.serial ≡ k.serial → ListsFollow k index) indexes

-- no list of the index of this serial has the marker
abbrev pub IsSpent : ℕ → Marker → List Index → Type 0
IsSpent serial marker indexes = All (λ index. index.def.serial ≡ serial → HasMarker index.lists marker → ⊥) indexes
