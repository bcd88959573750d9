-- How indexes stand for the documents of a store.
use Rattle.std.specs.Prelude.{◌≡◌, ◌<◌, ℕ, List, map, length}
use Rattle.std.specs.List.{All, AllPairs, IsDistinct}
use Rattle.std.specs.Str.{bytes_eq}
use Rattle.ft_base.specs.Docs.{Doc}
use Rattle.ft_index.specs.Index.{Index, Indexes, IsIndex}
use Rattle.ft_index.specs.Markers.{AreBefore, HasMarker}
use Rattle.ft_meaning.specs.Meaning.{ValuesFit}
use Rattle.hash_store.specs.Store.{Store}
use Rattle.inverted_list.specs.Listing.{RisesAbove, last_id}
use Rattle.inverted_list.specs.declared.marker.Marker.{Marker}
use Rattle.inverted_list.specs.declared.marker.Markers.{Markers}

-- the markers that an event gives first
abbrev pub markers_at : ℕ → Markers
markers_at event = record { event = event; next = 0 }

-- One index stands for the documents: its live ids are those of its members, and so are the live entries of its lists. Its
-- ids and its markers are of earlier events.
pub record IndexStands (space : List Doc) (next : ℕ) (markers : Markers) (index : Index) : Type 0 where
  pub documents : Indexes index space
  pub sound : IsIndex index
  pub earlier : index.table.last < next
  pub before : AreBefore markers index.lists

-- The ids of the documents rise, and are those of earlier events. No two keys are the same, and no hash is without fields.
pub record AreWritten (space : List Doc) (next : ℕ) : Type 0 where
  pub rise : RisesAbove 0 (map (λ (doc : Doc). (doc.id, doc.key)) space)
  pub earlier : last_id 0 (map (λ (doc : Doc). (doc.id, doc.key)) space) < next
  pub keys : IsDistinct bytes_eq (map (λ (doc : Doc). doc.key) space)
  pub fit : All (λ (doc : Doc). ValuesFit doc.hash) space
  pub filled : All (λ (doc : Doc). 0 < length doc.hash) space

-- the markers of an index's lists are of one event
abbrev pub AreOfEvent : ℕ → Index → Type 0
AreOfEvent event index = (marker : Marker) → HasMarker index.lists marker → marker.event ≡ event

-- no list of one index has the marker of a list of another
abbrev pub AreApart : Index → Index → Type 0
AreApart index other = (marker : Marker) → HasMarker index.lists marker → HasMarker other.lists marker → ⊥

-- The documents of a store are of events before this one, and each index stands for them. No two indexes share a marker.
pub record InStep (store : Store) (indexes : List Index) (next : ℕ) : Type 0 where
  pub last : store.last < next
  pub documents : AreWritten store.space next
  pub stand : All (IndexStands store.space next (markers_at next)) indexes
  pub apart : AllPairs AreApart indexes
