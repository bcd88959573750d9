-- What a splice and a collection make of the ranges of a field.
use Rattle.std.specs.Prelude.{◌≡◌, ◌≢◌, ◌-◌, ℕ, Bool, true, false, not, ℤ, length}
use Rattle.posting_block.specs.declared.hits.NumHit.{NumHit}
use Rattle.inverted_list.specs.declared.marker.Marker.{Marker}
use Rattle.inverted_list.specs.declared.marker.Markers.{Markers}
use Rattle.inverted_list.specs.Listing.{Listing, marker_of}
use Rattle.gc_splice.specs.declared.repair.Repair.{Repair}
use Rattle.gc_splice.specs.declared.splice.Spliced.{Spliced}
use Rattle.gc_splice.specs.declared.splice.Spliced.TheVariants.{Done, Moved, Gone, LastEvent}
use Rattle.gc_splice.specs.Alive.{alive, all_alive}
use Rattle.gc_splice.specs.Markers.{marker_after}
use Rattle.gc_splice.specs.Splice.{BlocksComeFirst, picture_of, spliced, tail_stands}
use Rattle.numeric_ranges.specs.Ranges.{Rows, with_list}

-- how many entries a splice took out
abbrev pub removed_by : Spliced → ℕ
removed_by (Done removed kept) = removed
removed_by (Moved seen now) = 0
removed_by Gone = 0
removed_by LastEvent = 0

-- A repair is spliced into the list of the range that begins at a low, where that has the marker that the repair was made for.
pub record SplicesRange (low : ℤ) (repair : Repair NumHit) (marker : Marker) (l : Listing NumHit) (old new : Rows) (outcome : Spliced) : Type 0 where
  pub moved : repair.seen ≢ l.marker → (new ≡ old) × (outcome ≡ Moved repair.seen l.marker)
  pub done : repair.seen ≡ l.marker → (new ≡ with_list old low (spliced l repair marker))
      × (outcome ≡ Done (length l.entries - length (spliced l repair marker).entries) (not (tail_stands (picture_of l) repair)))
  pub blocks : repair.seen ≡ l.marker → BlocksComeFirst l

-- The second list has the live entries of the first, and the marker that is given next.
pub record IsCollected (live : ℕ → Bool) (markers : Markers) (old new : Listing NumHit) : Type 0 where
  pub entries : new.entries ≡ alive live old.entries
  pub marker : new.marker ≡ marker_of markers

-- The dead entries went out of a list; one without any stays as it is, and takes no marker.
pub record CollectsList (live : ℕ → Bool) (markers : Markers) (old new : Listing NumHit) (after : Markers) : Type 0 where
  pub clean : all_alive live old.entries ≡ true → (new ≡ old) × (after ≡ markers)
  pub dead : all_alive live old.entries ≡ false → IsCollected live markers old new × (after ≡ marker_after markers)

-- They went out of the list of the range that begins at a low.
pub record CollectsRange (live : ℕ → Bool) (low : ℤ) (markers : Markers) (l : Listing NumHit) (old new : Rows) (after : Markers) : Type 0 where
  pub clean : all_alive live l.entries ≡ true → (new ≡ old) × (after ≡ markers)
  pub dead : all_alive live l.entries ≡ false
      → (k : Listing NumHit) × IsCollected live markers l k × (new ≡ with_list old low k) × (after ≡ marker_after markers)
