-- What a caller may rely on of the places of the words of one text.
use Rattle.std.specs.Prelude.{◌≡◌, ◌⊎◌, ℕ, true, false, List}
use Rattle.std.specs.List.{All, AllPairs}
use Rattle.phrase_match.specs.Phrase.{has, rises}

-- What is true of the places of words in one text: those of a word rise, and two words that share a place are one word.
abbrev pub AllRise : List (List ℕ) → Type 0
AllRise lists = All (λ (places : List ℕ). rises places ≡ true) lists

abbrev pub AreEqualOrApart : List ℕ → List ℕ → Type 0
AreEqualOrApart places others = (places ≡ others) ⊎ ((place : ℕ) → has places place ≡ true → has others place ≡ false)

abbrev pub AllEqualOrApart : List (List ℕ) → Type 0
AllEqualOrApart lists = AllPairs AreEqualOrApart lists
