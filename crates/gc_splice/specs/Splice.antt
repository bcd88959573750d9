-- What a splice makes of a list: the repair of a picture, laid over the list as it is now.
use Rattle.std.specs.Prelude.{◌≡◌, ◌≢◌, ◌<◌, ◌==◌, ◌&&◌, ◌-◌, ℕ, List, [], ◌∷◌, ◌++◌, length, not, Bool, if◌then◌else◌, option_to_list}
use Rattle.inverted_list.specs.declared.marker.Marker.{Marker}
use Rattle.inverted_list.specs.declared.picture.Picture.{Picture}
use Rattle.inverted_list.specs.Blocks.{entries, listing}
use Rattle.inverted_list.specs.Listing.{Listing, tail_behind}
use Rattle.gc_splice.specs.declared.repair.BlockRepair.{BlockRepair}
use Rattle.gc_splice.specs.declared.repair.BlockRepair.TheVariants.{Same, Gone, Changed}
use Rattle.gc_splice.specs.declared.repair.Repair.{Repair}
use Rattle.gc_splice.specs.declared.splice.Spliced.{Spliced}
use Rattle.gc_splice.specs.declared.splice.Spliced.TheVariants.{Done, Moved}
use Rattle.gc_splice.specs.Alive.{Without}
use Rattle.gc_splice.specs.Repaired.{block_after}

module _ {P : Type 0} where
  -- the blocks and the tail of a list that a contract sees
  abbrev pub picture_of : Listing P → Picture P
  picture_of l = record { marker = l.marker; sealed = l.sealed; tail = tail_behind l.sealed l.entries }

  -- the sealed blocks hold the first entries, as those of every list do
  abbrev pub BlocksComeFirst : Listing P → Type 0
  BlocksComeFirst l = entries (picture_of l) ≡ l.entries

  -- The sealed blocks once the first of them are repaired: those that went are left out, and those behind stay.
  abbrev pub mended : List (BlockRepair P) → List (List (ℕ × P)) → List (List (ℕ × P))
  mended [] bs = bs
  mended (r ∷ rs) [] = []
  mended (r ∷ rs) (b ∷ bs) = option_to_list (block_after b r) ++ mended rs bs

  -- whether the tail is the one that was repaired: no block was sealed since, and no entry came to it
  abbrev pub tail_stands : Picture P → Repair P → Bool
  tail_stands l r = (length l.sealed == length r.sealed) && (length l.tail == r.tail_len)

  -- the list with the repair in place of what it repairs, and with a new marker
  abbrev pub splice_of : Picture P → Repair P → Marker → Picture P
  splice_of l r marker = record {
    marker = marker;
    sealed = mended r.sealed l.sealed;
    tail = if tail_stands l r then r.tail else l.tail;
  }

  -- the same of a list as contracts see it
  abbrev pub spliced : Listing P → Repair P → Marker → Listing P
  spliced l r marker = listing (splice_of (picture_of l) r marker)

  -- a repair takes nothing from this block but entries that are not live, and leaves a changed block an entry
  abbrev pub BlockFits : (ℕ → Bool) → BlockRepair P → List (ℕ × P) → Type 0
  BlockFits live Same b = Unit {0}
  BlockFits live Gone b = Without live b []
  BlockFits live (Changed c) b = (0 < length c) × Without live b c

  -- so for each of the first blocks
  abbrev pub BlocksFit : (ℕ → Bool) → List (BlockRepair P) → List (List (ℕ × P)) → Type 0
  BlocksFit live [] bs = Unit {0}
  BlocksFit live (r ∷ rs) [] = ⊥
  BlocksFit live (r ∷ rs) (b ∷ bs) = BlockFits live r b × BlocksFit live rs bs

  -- The repair fits the list: it takes nothing from it but entries that are not live.
  pub record Fits (live : ℕ → Bool) (r : Repair P) (l : Picture P) : Type 0 where
    pub blocks : BlocksFit live r.sealed l.sealed
    pub tail : length l.sealed ≡ length r.sealed → length l.tail ≡ r.tail_len → Without live l.tail r.tail

  -- The repair is laid over the list where the list has the marker that was pictured, and only there.
  pub record SplicesList (repair : Repair P) (marker : Marker) (old new : Listing P) (outcome : Spliced) : Type 0 where
    pub moved : repair.seen ≢ old.marker → (new ≡ old) × (outcome ≡ Moved repair.seen old.marker)
    pub done : repair.seen ≡ old.marker → (new ≡ spliced old repair marker)
        × (outcome ≡ Done (length old.entries - length new.entries) (not (tail_stands (picture_of old) repair)))
    pub blocks : repair.seen ≡ old.marker → BlocksComeFirst old
