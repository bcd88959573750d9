-- What a repair and a collection make of the dictionary that holds their list.
use Rattle.std.specs.Prelude.{◌≡◌, ◌≢◌, ◌==◌, ◌-◌, ℕ, List, Bool, true, false, not, Option, None, Some, length, if◌then◌else◌}
use Rattle.inverted_list.specs.declared.marker.Marker.{Marker}
use Rattle.inverted_list.specs.declared.marker.Markers.{Markers}
use Rattle.inverted_list.specs.Listing.{Listing, marker_of}
use Rattle.posting_block.specs.declared.hits.TagHit.{TagHit}
use Rattle.gc_splice.specs.declared.repair.Repair.{Repair}
use Rattle.gc_splice.specs.declared.splice.Spliced.{Spliced}
use Rattle.gc_splice.specs.declared.splice.Spliced.TheVariants.{Done, Gone, LastEvent, Moved}
use Rattle.gc_splice.specs.Alive.{alive, all_alive}
use Rattle.gc_splice.specs.Markers.{marker_after}
use Rattle.gc_splice.specs.Splice.{BlocksComeFirst, picture_of, spliced, tail_stands}
use Rattle.term_dict.specs.Tags.{FieldTags, SetsTag}
use Rattle.term_dict.specs.Terms.{Lists, Sets}

-- how many entries a splice took out
abbrev pub removed_by : Spliced → ℕ
removed_by (Done removed tail_kept) = removed
removed_by (Moved seen now) = 0
removed_by Gone = 0
removed_by LastEvent = 0

module _ {P : Type 0} where
  -- the list, and none where it has no entry
  abbrev pub some_filled : Listing P → Option (Listing P)
  some_filled l = if length l.entries == 0 then None else Some l

  -- A repair was laid over a list where the list has the marker that was pictured, and only there. A list that was left without an entry is gone.
  -- `Set` says that the dictionary has a list in place of this one, or none, and `Same` that it is as it was.
  pub record Splices (Set : Option (Listing P) → Type 0) (Same : Type 0) (repair : Repair P) (marker : Marker) (l : Listing P) (outcome : Spliced) : Type 0 where
    pub moved : repair.seen ≢ l.marker → Same × (outcome ≡ Moved repair.seen l.marker)
    pub done : repair.seen ≡ l.marker → Set (some_filled (spliced l repair marker))
        × (outcome ≡ Done (length l.entries - length (spliced l repair marker).entries) (not (tail_stands (picture_of l) repair)))
    pub blocks : repair.seen ≡ l.marker → BlocksComeFirst l

  -- The dead entries of a list were taken out, and the list has the marker that was given next. One without a dead entry is as it was, and
  -- one that was left without an entry is gone.
  pub record Collects (live : ℕ → Bool) (Set : Option (Listing P) → Type 0) (Same : Type 0) (l : Listing P) (old new : Markers) : Type 0 where
    pub clean : all_alive live l.entries ≡ true → Same × (new ≡ old)
    pub dead : all_alive live l.entries ≡ false
        → (k : Listing P) × (k.entries ≡ alive live l.entries) × (k.marker ≡ marker_of old) × Set (some_filled k) × (new ≡ marker_after old)

  -- the list of a word
  abbrev pub SplicesWord : List ℕ → Repair P → Marker → Listing P → Lists P → Lists P → Spliced → Type 0
  SplicesWord word repair marker l old new outcome = Splices (λ list. Sets word list old new) (new ≡ old) repair marker l outcome

  abbrev pub CollectsWord : (ℕ → Bool) → List ℕ → Listing P → Lists P → Lists P → Markers → Markers → Type 0
  CollectsWord live word l old new before after = Collects live (λ list. Sets word list old new) (new ≡ old) l before after

-- the list of a field's tag
abbrev pub SplicesTag : ℕ → List ℕ → Repair TagHit → Marker → Listing TagHit → FieldTags → FieldTags → Spliced → Type 0
SplicesTag field tag repair marker l old new outcome = Splices (λ list. SetsTag field tag list old new) (new ≡ old) repair marker l outcome

abbrev pub CollectsTag : (ℕ → Bool) → ℕ → List ℕ → Listing TagHit → FieldTags → FieldTags → Markers → Markers → Type 0
CollectsTag live field tag l old new before after = Collects live (λ list. SetsTag field tag list old new) (new ≡ old) l before after
