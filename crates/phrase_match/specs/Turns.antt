-- The lists of the words of a phrase in the words' order, where some words share a list.
use Rattle.std.specs.Prelude.{ℕ, ◌+◌, List, [], ◌∷◌, map, length, get_or, Option, None, Some}

-- for each word its list, by the list's place among others; where none is there it is empty
abbrev pub in_turn : {X : Type 0} → List (List X) → List ℕ → List (List X)
in_turn lists order = map (λ at. get_or lists at []) order

-- the lists in their own order, or in one that is told
abbrev pub turns : List (List ℕ) → Option (List ℕ) → List (List ℕ)
turns lists None = lists
turns lists (Some order) = in_turn lists order

-- how many places all lists have
abbrev pub place_count : List (List ℕ) → ℕ
place_count [] = 0
place_count (places ∷ lists) = length places + place_count lists
