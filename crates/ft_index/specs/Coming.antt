-- What has become of an index since an event.
use Rattle.std.specs.Prelude.{◌≡◌, ◌<◌, ◌≤◌, ℕ, ℤ, true, List}
use Rattle.gc_splice.specs.Growing.{ComesFrom}
use Rattle.inverted_list.specs.declared.marker.Marker.{Marker}
use Rattle.term_dict.specs.Tags.{list_in}
use Rattle.term_dict.specs.Terms.{list_of}
use Rattle.ft_index.specs.Index.{Index, is_live}
use Rattle.ft_index.specs.Lists.{AllLists, list_from, rows_of}
use Rattle.ft_index.specs.Markers.{HasMarker}

-- Each list of an index that was made before the event stood there under its name, and has grown since.
pub record ListsCome (event : ℕ) (old new : AllLists) : Type 0 where
  pub words : (word : List ℕ) → ComesFrom event (list_of old.words word) (list_of new.words word)
  pub tags : (field : ℕ) (tag : List ℕ) → ComesFrom event (list_in old.tags field tag) (list_in new.tags field tag)
  pub ranges : (field : ℕ) (low : ℤ) → ComesFrom event (list_from (rows_of old.ranges field) low) (list_from (rows_of new.ranges field) low)

-- It is the same index. Each list of it that was made before the event stood there, and has grown since, and each id of an
-- earlier event that is live was live.
pub record Came (event : ℕ) (old new : Index) : Type 0 where
  pub serial : new.def.serial ≡ old.def.serial
  pub lists : ListsCome event old.lists new.lists
  pub live : (id : ℕ) → id < event → is_live new id ≡ true → is_live old id ≡ true

-- each list of the index was made in the event or later
abbrev pub IsFresh : ℕ → Index → Type 0
IsFresh event index = (marker : Marker) → HasMarker index.lists marker → event ≤ marker.event
