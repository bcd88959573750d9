-- Whether the words of a phrase stand close enough together in a field (RediSearch: exact phrases, $slop, $inorder).
-- Each word has the list of the places where it stands.
use Rattle.std.specs.Prelude.{ℕ, ◌+◌, ◌-◌, min, max, nat_lt, nat_le, ◌==◌, Bool, true, not, ◌&&◌, ◌||◌, List, [], ◌∷◌, length, Option, Some, None}
use Rattle.std.specs.List.{list_any, list_all}

-- whether a place is in a list
abbrev pub has : List ℕ → ℕ → Bool
has places place = list_any (λ other. other == place) places

-- each place is below all those behind it
abbrev pub rises : List ℕ → Bool
rises [] = true
rises (place ∷ places) = list_all (nat_lt place) places && rises places

-- no place is there twice
abbrev pub is_distinct : List ℕ → Bool
is_distinct [] = true
is_distinct (place ∷ places) = not (has places place) && is_distinct places

-- the least and the greatest of a first place and of those behind it
abbrev pub least : ℕ → List ℕ → ℕ
least place [] = place
least place (next ∷ places) = min place (least next places)

abbrev pub greatest : ℕ → List ℕ → ℕ
greatest place [] = place
greatest place (next ∷ places) = max place (greatest next places)

-- how many places from the least to the greatest, both counted, are left for other words
abbrev pub gaps : List ℕ → ℕ
gaps [] = 0
gaps (place ∷ places) = greatest place places - least place places + 1 - length (place ∷ places)

-- whether so few places are left; where no slop is given there is no bound
abbrev pub is_close : Option ℕ → ℕ → Bool
is_close None left = true
is_close (Some slop) left = nat_le left slop

-- one place for each word: all distinct, close together, and rising in the words' order if that is asked for
abbrev pub fits : Option ℕ → Bool → List ℕ → Bool
fits slop in_order choice = is_distinct choice && (is_close slop (gaps choice) && (not in_order || rises choice))

-- whether some choice of one place from each list passes a test
abbrev pub some_choice : (List ℕ → Bool) → List (List ℕ) → Bool
some_choice test [] = test []
some_choice test (places ∷ lists) = list_any (λ place. some_choice (λ choice. test (place ∷ choice)) lists) places

-- Whether some choice of one place from each word's list fits. Without a word there is one choice, and it fits.
abbrev pub within : List (List ℕ) → Option ℕ → Bool → Bool
within lists slop in_order = some_choice (fits slop in_order) lists
