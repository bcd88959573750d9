-- The leaves of an iterator, and which hints fit them.
use Rattle.std.specs.Prelude.{◌≡◌, ℕ, List, [], ◌∷◌, ◌++◌, ⊤}
use Rattle.std.specs.List.{All, Contains, flat_map}
use Rattle.inverted_list.specs.declared.place.Place.{Place}
use Rattle.id_iters.specs.Held.{Held}
use Rattle.id_iters.specs.Places.{FitsList, IsOpened}
use Rattle.id_iters.specs.declared.hint.Hint.{Hint}
use Rattle.id_iters.specs.declared.iter.Ahead.{Ahead}
use Rattle.id_iters.specs.declared.iter.Iter.{Iter}
use Rattle.id_iters.specs.declared.iter.Iter.TheFolds.{fold-Iter, fold-Ahead}
use Rattle.id_iters.specs.declared.iter.Iter.TheOpen as layer
use Rattle.id_iters.specs.declared.leaf.Leaf.{Leaf}
use Rattle.id_iters.specs.declared.list_name.ListName.{ListName}

-- the leaves of an iterator, by those of its parts; the words of a phrase are leaves too
abbrev pub leaves_step : layer.Iter-F (List Leaf) (List Leaf) → List Leaf
leaves_step (layer.Leaf leaf) = leaf ∷ []
leaves_step (layer.And parts) = flat_map (λ (leaves : List Leaf). leaves) parts
leaves_step (layer.Or parts stretch) = flat_map (λ (leaves : List Leaf). leaves) parts
leaves_step (layer.Not part) = part.value
leaves_step (layer.Optional part) = part.value
leaves_step layer.All = []
leaves_step (layer.Phrase phrase) = phrase.words
leaves_step layer.Empty = []

abbrev pub ahead_leaves : layer.Ahead-F (List Leaf) (List Leaf) → List Leaf
ahead_leaves part = part.iter

abbrev pub leaves_of : Iter → List Leaf
leaves_of = fold-Iter (List Leaf) (List Leaf) leaves_step ahead_leaves

abbrev pub leaves_of_ahead : Ahead → List Leaf
leaves_of_ahead = fold-Ahead (List Leaf) (List Leaf) leaves_step ahead_leaves

-- The place is the one that is opened in the list of that name behind the ids up to `after`, and it is sound there.
pub record IsOpenAt (held : Held) (list : ListName) (after : ℕ) (place : Place) : Type 0 where
  pub sound : FitsList held list place
  pub opened : IsOpened held list after place

-- each hint is a place that is opened in its list behind the ids up to `after`
abbrev pub AreOpenBehind : Held → ℕ → List Hint → Type 0
AreOpenBehind held after hints = All (λ (hint : Hint). IsOpenAt held hint.list after hint.place) hints

-- A hint fits a leaf: it names the leaf's list, and its place is the one that is opened there behind the ids up to
-- `after`. So it has the list's marker, `after` is its last id, and it stands where it says.
pub record FitsLeaf (held : Held) (after : ℕ) (leaf : Leaf) (hint : Hint) : Type 0 where
  pub list : hint.list ≡ leaf.list
  pub place : IsOpenAt held leaf.list after hint.place

-- some hint fits the leaf
pub record HasFitting (held : Held) (after : ℕ) (hints : List Hint) (leaf : Leaf) : Type 0 where
  pub hint : Hint
  pub among : Contains hints hint
  pub fits : FitsLeaf held after leaf hint

-- The leaf's list is open behind the ids up to `after`, at the place of each hint that fits the leaf.
pub record IsPlaced (held : Held) (after : ℕ) (hints : List Hint) (leaf : Leaf) : Type 0 where
  pub opened : IsOpenAt held leaf.list after leaf.place
  pub hinted : All (λ (hint : Hint). FitsLeaf held after leaf hint → leaf.place ≡ hint.place) hints

-- each leaf has a hint that fits it, and no more are there; they stand in the order of the leaves
abbrev pub HintsFit : Held → ℕ → List Leaf → List Hint → Type 0
HintsFit held after [] [] = ⊤
HintsFit held after [] (hint ∷ hints) = ⊥
HintsFit held after (leaf ∷ leaves) [] = ⊥
HintsFit held after (leaf ∷ leaves) (hint ∷ hints) = FitsLeaf held after leaf hint × HintsFit held after leaves hints

-- Hints went behind others: one for each of these leaves, which fits it, in their order.
pub record Hinted (held : Held) (after : ℕ) (leaves : List Leaf) (old new : List Hint) : Type 0 where
  pub more : List Hint
  pub behind : new ≡ old ++ more
  pub fit : HintsFit held after leaves more
