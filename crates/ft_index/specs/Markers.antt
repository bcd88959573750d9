-- The markers of the lists of an index, by the lists' names, and how lists take them.
use Rattle.std.specs.Prelude.{◌≡◌, ◌<◌, ◌≤◌, ◌⊎◌, ℕ, ℤ, List, Option, Some, None, IfSome}
use Rattle.id_iters.specs.declared.list_name.ListName.{ListName}
use Rattle.id_iters.specs.declared.list_name.ListName.TheVariants as names
use Rattle.inverted_list.specs.Listing.{Listing}
use Rattle.inverted_list.specs.declared.marker.Marker.{Marker}
use Rattle.inverted_list.specs.declared.marker.Markers.{Markers}
use Rattle.numeric_ranges.specs.Ranges.{Rows}
use Rattle.posting_block.specs.declared.hits.NumHit.{NumHit}
use Rattle.posting_block.specs.declared.hits.TagHit.{TagHit}
use Rattle.posting_block.specs.declared.hits.TextHit.{TextHit}
use Rattle.term_dict.specs.Tags.{FieldTags, list_in}
use Rattle.term_dict.specs.Terms.{Lists, list_of}
use Rattle.gc_splice.specs.Growing.{ComesFrom}
use Rattle.ft_index.specs.Lists.{AllLists, list_from, rows_of}

-- the marker of a list, where there is the list
abbrev pub marker_in : {P : Type 0} → Option (Listing P) → Option Marker
marker_in None = None
marker_in (Some list) = Some list.marker

-- the marker of a word's list
abbrev pub word_marker : Lists TextHit → List ℕ → Option Marker
word_marker words word = marker_in (list_of words word)

-- the marker of the list of a field's tag
abbrev pub tag_marker : FieldTags → ℕ × List ℕ → Option Marker
tag_marker tags name = marker_in (list_in tags name.0 name.1)

-- the marker of the list of a range, by the range's low
abbrev pub slot_marker : Option Rows → ℤ → Option Marker
slot_marker rows low = marker_in (list_from rows low)

-- the marker of the list of a field's range
abbrev pub range_marker : List (Option Rows) → ℕ × ℤ → Option Marker
range_marker ranges name = slot_marker (rows_of ranges name.0) name.1

-- the marker of the list of a name, where there is the list
abbrev pub marker_at : AllLists → ListName → Option Marker
marker_at lists (names.Word text) = word_marker lists.words text
marker_at lists (names.Tag field text) = tag_marker lists.tags (field, text)
marker_at lists (names.Range field low) = range_marker lists.ranges (field, low)

-- a marker was given before those that are given next
abbrev pub IsBefore : Markers → Marker → Type 0
IsBefore markers marker = (marker.event < markers.event) ⊎ ((marker.event ≡ markers.event) × (marker.nth < markers.next))

-- the marker of each list was given before
abbrev pub AreBefore : Markers → AllLists → Type 0
AreBefore markers lists = (name : ListName) → IfSome (marker_at lists name) (IsBefore markers)

-- some list has the marker
pub record HasMarker (lists : AllLists) (marker : Marker) : Type 0 where
  pub name : ListName
  pub has : marker_at lists name ≡ Some marker

-- no two lists have one marker
abbrev pub MarkersDiffer : AllLists → Type 0
MarkersDiffer lists = (name other : ListName) (marker : Marker)
    → marker_at lists name ≡ Some marker → marker_at lists other ≡ Some marker → name ≡ other

-- the marker was given from some markers on and before others of the same event
pub record IsGiven (from to : Markers) (marker : Marker) : Type 0 where
  pub event : marker.event ≡ from.event
  pub least : from.next ≤ marker.nth
  pub below : marker.nth < to.next

-- each list has a marker that one had before, or one that was given in between
abbrev pub GainsMarkers : AllLists → AllLists → Markers → Markers → Type 0
GainsMarkers old new from to = (marker : Marker) → HasMarker new marker → HasMarker old marker ⊎ IsGiven from to marker

-- each list has a marker that was given in between
abbrev pub AreGiven : Markers → Markers → AllLists → Type 0
AreGiven from to lists = (marker : Marker) → HasMarker lists marker → IsGiven from to marker

-- The same of lists by any names: how those of one kind, or all, take markers.
module _ {N : Type 0} where
  -- the marker of each name was given before
  abbrev pub AllBefore : Markers → (N → Option Marker) → Type 0
  AllBefore markers held = (name : N) → IfSome (held name) (IsBefore markers)

  -- Each name has the marker that it had, or one that was given in between; of these no two names have one.
  pub record TakesMarkers (from to : Markers) (old new : N → Option Marker) : Type 0 where
    pub event : to.event ≡ from.event
    pub next : from.next ≤ to.next
    pub gains : (name : N) (marker : Marker) → new name ≡ Some marker → (old name ≡ Some marker) ⊎ IsGiven from to marker
    pub apart : (name other : N) (marker : Marker) → IsGiven from to marker → new name ≡ Some marker → new other ≡ Some marker → name ≡ other

-- Lists by any names take markers, and each that was made before has grown from what it was.
pub record TakesLists {N P : Type 0} (from to : Markers) (old new : N → Option (Listing P)) : Type 0 where
  pub markers : TakesMarkers from to (λ name. marker_in (old name)) (λ name. marker_in (new name))
  pub come : (name : N) → ComesFrom from.event (old name) (new name)

-- the list of a field's tag, by its name
abbrev pub tag_list : FieldTags → ℕ × List ℕ → Option (Listing TagHit)
tag_list tags name = list_in tags name.0 name.1

-- the list of a field's range, by its name
abbrev pub range_list : List (Option Rows) → ℕ × ℤ → Option (Listing NumHit)
range_list ranges name = list_from (rows_of ranges name.0) name.1
