-- A list that is changed in its place in a map.
use Rattle.std.specs.Prelude.{◌≡◌, ◌==◌, ◌+◌, ℕ, List, Bool, true, false, Option, None, Some, length}
use Rattle.std.specs.Result.{IfOk, OnOk, OnErr}
use Rattle.std.specs.declared.result.Result.{Result}
use Rattle.std.specs.declared.alloc.AllocError.{AllocError}
use Rattle.std.specs.declared.alloc.Global.{Global}
use Rattle.std.specs.declared.vec.Vec.{Vec}
use Rattle.inverted_list.specs.declared.marker.Marker.{Marker}
use Rattle.inverted_list.specs.declared.marker.Markers.{Markers}
use Rattle.inverted_list.specs.Listing.{Listing, RisesAbove, marker_of}
use Rattle.gc_splice.specs.declared.repair.Repair.{Repair}
use Rattle.gc_splice.specs.declared.splice.Spliced.{Spliced}
use Rattle.gc_splice.specs.Alive.{alive, all_alive}
use Rattle.gc_splice.specs.Markers.{marker_after}
use Rattle.gc_splice.specs.Splice.{SplicesList}
use Rattle.term_dict.specs.Rows.{lists_of}
use Rattle.term_dict.specs.Terms.{Sets, entries_in_all}

module _ {P : Type 0} where
  -- whether a list is there and has no entry
  abbrev pub is_drained : Option (Listing P) → Bool
  is_drained None = false
  is_drained (Some l) = length l.entries == 0

  -- A word has the list `k` in place of `l`, and nothing else changed.
  pub record Changes (word : List ℕ) (l k : Listing P) (old new : List (Vec ℕ Global × Listing P)) : Type 0 where
    pub sets : Sets word (Some k) (lists_of old) (lists_of new)
    pub same : k ≡ l → new ≡ old
    pub counted : entries_in_all (lists_of new) + length l.entries ≡ entries_in_all (lists_of old) + length k.entries
    pub rises : RisesAbove 0 k.entries

  -- it is what a splice makes of `l`
  abbrev pub SplicesRow : List ℕ → Repair P → Marker → Listing P → List (Vec ℕ Global × Listing P) → List (Vec ℕ Global × Listing P) → Spliced → Type 0
  SplicesRow word repair marker l old new outcome = (k : Listing P) × Changes word l k old new × SplicesList repair marker l k outcome

  -- it is `l` without its dead entries, and so many of them went
  pub record CollectsList (live : ℕ → Bool) (l k : Listing P) (old new : Markers) (outcome : Result ℕ AllocError) : Type 0 where
    pub entries : IfOk outcome (λ removed. (k.entries ≡ alive live l.entries) × (removed + length k.entries ≡ length l.entries))
    pub clean : all_alive live l.entries ≡ true → (k ≡ l) × (new ≡ old)
    pub marker : all_alive live l.entries ≡ false → OnOk outcome ((k.marker ≡ marker_of old) × (new ≡ marker_after old))
    pub err : OnErr outcome ((k ≡ l) × (new ≡ old))

  abbrev pub CollectsRow : (ℕ → Bool) → List ℕ → Listing P → List (Vec ℕ Global × Listing P) → List (Vec ℕ Global × Listing P) → Markers → Markers → Result ℕ AllocError → Type 0
  CollectsRow live word l old new before after outcome = (k : Listing P) × Changes word l k old new × CollectsList live l k before after outcome
