-- The words of one document as they are collected, each once with its codes, and how they go into the lists.
use Rattle.std.specs.Prelude.{◌≡◌, ◌<◌, ℕ, suc, List, [], ◌∷◌, ◌++◌, Bool, Option, None, Some, length, map, if◌then◌else◌}
use Rattle.std.specs.Borrow.{Bor}
use Rattle.std.specs.List.{AllByRecursion}
use Rattle.std.specs.Map.{lookup}
use Rattle.std.specs.Option.{unwrap_or}
use Rattle.std.specs.Str.{bytes_eq}
use Rattle.posting_block.specs.declared.hits.TextHit.{TextHit}
use Rattle.term_dict.specs.Terms.{Lists, entries_of}
use Rattle.token_text.specs.declared.token.Token.{Token}
use Rattle.ft_index.specs.Entries.{entry, occurrence}

-- the tokens of texts with their codes, the first text being that of the field with this number
abbrev pub occurrences_in : ℕ → List (List Token) → List (List ℕ × ℕ)
occurrences_in number [] = []
occurrences_in number (tokens ∷ texts) = map (occurrence number) tokens ++ occurrences_in (suc number) texts

-- words, which are lent, and their codes, as an index map holds them
abbrev pub Collected : Type 0
Collected = List (Bor (List ℕ) × List ℕ)

-- whether a key is a word
abbrev pub is_key : List ℕ → Bor (List ℕ) → Bool
is_key word key = bytes_eq word key.now

-- the codes of a word, of which there are none where it was not met
abbrev pub codes_of : Collected → List ℕ → List ℕ
codes_of found word = unwrap_or (lookup (is_key word) found) []

-- the code goes to its word, and no other word gets one
abbrev pub one_more : List ℕ → ℕ → List ℕ → List ℕ
one_more word code other = if bytes_eq other word then code ∷ [] else []

-- a code was noted behind those of its word
abbrev pub IsNoted : List ℕ → ℕ → Collected → Collected → Type 0
IsNoted word code old new = (other : List ℕ) → codes_of new other ≡ codes_of old other ++ one_more word code other

-- each word that was met has a code
abbrev pub AreMet : Collected → Type 0
AreMet found = AllByRecursion (λ (one : Bor (List ℕ) × List ℕ). 0 < length one.1) found

-- The lists are as they were but for one entry of this id at the end of some.
abbrev pub GrowBy : ℕ → Lists TextHit → Lists TextHit → Type 0
GrowBy id old new = (word : List ℕ) → (codes : List ℕ) × (entries_of new word ≡ entries_of old word ++ entry id codes)

-- a word's list got an entry of these codes, and no other list did
abbrev pub WordGains : List ℕ → ℕ → List ℕ → Lists TextHit → Lists TextHit → Type 0
WordGains word id codes old new = (other : List ℕ)
    → entries_of new other ≡ (if bytes_eq word other then entries_of old other ++ (id, record { places = codes }) ∷ [] else entries_of old other)

-- each word's list got an entry of the codes that were found for it
abbrev pub WordsGain : Collected → ℕ → Lists TextHit → Lists TextHit → Type 0
WordsGain found id old new = (word : List ℕ) → entries_of new word ≡ entries_of old word ++ entry id (codes_of found word)

-- A word whose codes are still to come has its old entries, and one with none left has its new entry behind them.
abbrev pub IsAddedBut : Option (List ℕ) → Collected → ℕ → Lists TextHit → Lists TextHit → List ℕ → Type 0
IsAddedBut None found id old new word = entries_of new word ≡ entries_of old word ++ entry id (codes_of found word)
IsAddedBut (Some codes) found id old new word = (entries_of new word ≡ entries_of old word) × (codes_of found word ≡ codes)

-- All that was found is in the lists, but for the words that are left.
abbrev pub AreAddedBut : Collected → Collected → ℕ → Lists TextHit → Lists TextHit → Type 0
AreAddedBut left found id old new = (word : List ℕ) → IsAddedBut (lookup (is_key word) left) found id old new word
