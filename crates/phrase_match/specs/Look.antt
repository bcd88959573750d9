-- What a look at the places from one of them on may say.
use Rattle.std.specs.Prelude.{◌≡◌, ℕ, ◌-◌, ◌<◌, nat_le, ◌==◌, Bool, true, false, List, [], ◌∷◌, Option, Some, None, map, filter}
use Rattle.std.specs.List.{count_by}
use Rattle.phrase_match.specs.Phrase.{within}
use Rattle.phrase_match.specs.declared.look.Look.{Look}
use Rattle.phrase_match.specs.declared.look.Look.TheVariants.{Fits, Nowhere, Later}

-- the places of a list, and of each list, from one on
abbrev pub from : ℕ → List ℕ → List ℕ
from low places = filter (nat_le low) places

abbrev pub all_from : ℕ → List (List ℕ) → List (List ℕ)
all_from low lists = map (from low) lists

-- Fits and Nowhere say whether the places from `low` on are within the slop. Later says that those from a later place
-- on are enough to tell.
abbrev pub Says : List (List ℕ) → Option ℕ → Bool → ℕ → Look → Type 0
Says lists slop in_order low Fits = within (all_from low lists) slop in_order ≡ true
Says lists slop in_order low Nowhere = within (all_from low lists) slop in_order ≡ false
Says lists slop in_order low (Later start) =
    (low < start) × (within (all_from start lists) slop in_order ≡ within (all_from low lists) slop in_order)

-- the least place from which a window reaches a place, where so many of its other words lie before that
abbrev pub earliest : ℕ → ℕ → Option ℕ → ℕ
earliest place others None = 0
earliest place others (Some slop) = place - others - slop

-- whether a list begins with a place
abbrev pub begins_with : ℕ → List ℕ → Bool
begins_with place [] = false
begins_with place (first ∷ places) = first == place

-- how many lists begin as a list does
abbrev pub twins : List ℕ → List (List ℕ) → ℕ
twins [] lists = 0
twins (first ∷ places) lists = count_by (begins_with first) lists
