-- Where a reader stands in a list.
use Rattle.std.specs.Prelude.{◌≡◌, ◌+◌, ℕ, true, List, Option, None, Some}
use Rattle.std.specs.List.{All}
use Rattle.inverted_list.specs.Listing.{Listing}
use Rattle.inverted_list.specs.Places.{Fits, IsSound}
use Rattle.inverted_list.specs.declared.place.Place.{Place}
use Rattle.id_iters.specs.Ahead.{IsAhead}
use Rattle.id_iters.specs.Held.{Held}
use Rattle.id_iters.specs.Leaves.{has_word, leaf_has}
use Rattle.id_iters.specs.declared.leaf.Leaf.{Leaf}
use Rattle.id_iters.specs.declared.list_name.ListName.{ListName}
use Rattle.id_iters.specs.declared.list_name.ListName.TheVariants as names

-- the place is sound in the list, where there is one
abbrev pub IsSoundIn : {P : Type 0} → Option (Listing P) → Place → Type 0
IsSoundIn None place = Unit {0}
IsSoundIn (Some list) place = IsSound place list

-- the place is sound in the list of that name
abbrev pub FitsList : Held → ListName → Place → Type 0
FitsList held (names.Word text) place = IsSoundIn (held.words text) place
FitsList held (names.Tag field text) place = IsSoundIn (held.tags field text) place
FitsList held (names.Range field low) place = IsSoundIn (held.ranges field low) place

-- the place is the one that is opened in the list behind the ids up to `after`; where there is no list, it is the first of all places
abbrev pub IsOpenedIn : {P : Type 0} → Option (Listing P) → ℕ → Place → Type 0
IsOpenedIn None after place = place ≡ record { marker = record { event = 0; nth = 0 }; block = 0; last = after }
IsOpenedIn (Some list) after place = Fits place after list

-- the place is the one that is opened in the list of that name behind the ids up to `after`
abbrev pub IsOpened : Held → ListName → ℕ → Place → Type 0
IsOpened held (names.Word text) after place = IsOpenedIn (held.words text) after place
IsOpened held (names.Tag field text) after place = IsOpenedIn (held.tags field text) after place
IsOpened held (names.Range field low) after place = IsOpenedIn (held.ranges field low) after place

-- The leaf may be asked from a number on: its place is sound, and the ids read ahead are those that it has up to the place.
-- What was never read has its place behind lower ids alone, and no ids ahead.
pub record LeafReady (held : Held) (leaf : Leaf) (from : ℕ) : Type 0 where
  pub sound : FitsList held leaf.list leaf.place
  pub ahead : IsAhead (leaf_has held leaf) leaf.place.last from leaf.ahead

-- The same of a leaf that is asked for its word in any field, as each of a phrase is.
pub record WordReady (held : Held) (leaf : Leaf) (from : ℕ) : Type 0 where
  pub sound : FitsList held leaf.list leaf.place
  pub ahead : IsAhead (has_word held leaf.list) leaf.place.last from leaf.ahead

-- each leaf may be asked for its word from a number on
abbrev pub LeavesReady : Held → List Leaf → ℕ → Type 0
LeavesReady held leaves from = All (λ (leaf : Leaf). WordReady held leaf from) leaves

-- the word's list has an entry with the id, and the leaf may be asked for its word beyond it
pub record StandAt (held : Held) (leaf : Leaf) (id : ℕ) : Type 0 where
  pub entry : has_word held leaf.list id ≡ true
  pub ready : WordReady held leaf (id + 1)

abbrev pub AllStandAt : Held → List Leaf → ℕ → Type 0
AllStandAt held leaves id = All (λ (leaf : Leaf). StandAt held leaf id) leaves
