-- The places that a reader knows, by the names of their lists.
use Rattle.std.specs.Prelude.{◌≡◌, ◌⊎◌, ℕ, ℤ, pos, List, [], Option, Some, None, IsSome}
use Rattle.std.specs.BTreeMap.{BTreeMap, get, get_by}
use Rattle.std.specs.Cmp.Lexicographic.{slice_cmp}
use Rattle.std.specs.List.{All}
use Rattle.std.specs.Ordering.{nat_cmp, int_cmp, ordering_then}
use Rattle.std.specs.declared.cmp.Ordering.{Ordering}
use denote.Ref.{Bor}
use Rattle.id_iters.specs.Fitting.{IsOpenAt}
use Rattle.id_iters.specs.Held.{Held}
use Rattle.id_iters.specs.declared.hint.Hint.{Hint}
use Rattle.id_iters.specs.declared.list_name.ListName.{ListName}
use Rattle.id_iters.specs.declared.list_name.ListName.TheVariants as names
use Rattle.inverted_list.specs.declared.place.Place.{Place}

-- which kind of list, of which field and from which number on
abbrev pub Group : Type 0
Group = ℕ × ℕ × ℤ

abbrev pub group_of : ListName → Group
group_of (names.Word text) = (0, 0, pos 0)
group_of (names.Tag field text) = (1, field, pos 0)
group_of (names.Range field low) = (2, field, low)

-- the text of a name; that of a range has none
abbrev pub text_of : ListName → List ℕ
text_of (names.Word text) = text
text_of (names.Tag field text) = text
text_of (names.Range field low) = []

-- the order of groups
abbrev pub group_cmp : Group → Group → Ordering
group_cmp x y = ordering_then (ordering_then (nat_cmp x.0 y.0) (nat_cmp x.1 y.1)) (int_cmp x.2 y.2)

-- the place at a text, where the group has places
abbrev pub place_at : Option (BTreeMap (Bor (List ℕ)) Place) → List ℕ → Option Place
place_at None text = None
place_at (Some places) text = get_by (λ (key : Bor (List ℕ)). slice_cmp nat_cmp text key.now) places

-- the place that is known in a list
abbrev pub place_of : BTreeMap Group (BTreeMap (Bor (List ℕ)) Place) → ListName → Option Place
place_of known list = place_at (get group_cmp known (group_of list)) (text_of list)

-- a place becomes known in a list, and each other list has what it had
pub record Adds (old new : ListName → Option Place) (list : ListName) (place : Place) : Type 0 where
  pub here : new list ≡ Some place
  pub others : (name : ListName) → (name ≡ list) ⊎ (new name ≡ old name)

-- each place that is known is the one that is opened in its list behind the ids up to `after`
abbrev pub KnownFit : Held → ℕ → (ListName → Option Place) → Type 0
KnownFit held after known = (list : ListName) (place : Place) → known list ≡ Some place → IsOpenAt held list after place

-- a place is known in the list of each hint that is opened there behind the ids up to `after`, and sound
abbrev pub KnowsAll : Held → ℕ → (ListName → Option Place) → List Hint → Type 0
KnowsAll held after known hints =
    All (λ (hint : Hint). IsOpenAt held hint.list after hint.place → IsSome (known hint.list)) hints
