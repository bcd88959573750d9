-- What a contract sees of a term dictionary: its words, each with its posting list.
use Rattle.std.specs.Prelude.{◌≡◌, ℕ, List, [], ◌∷◌, Option, None, Some, length, filter, sum_by, IfSome}
use Rattle.std.specs.Borrow.{Bor}
use Rattle.std.specs.Map.{keys_of, lookup, update}
use Rattle.std.specs.Option.{option_map, unwrap_or}
use Rattle.std.specs.Str.{bytes_eq}
use Rattle.inverted_list.specs.declared.marker.Markers.{Markers}
use Rattle.inverted_list.specs.Listing.{Listing, RisesAbove, empty_list, marker_of}
use Rattle.inverted_list.specs.Names.{NamesRise, is_after, next_name}

-- words and their lists
abbrev pub Lists : Type 0 → Type 0
Lists P = List (List ℕ × Listing P)

module _ {P : Type 0} where
  -- the list of a word, where it has one
  abbrev pub list_of : Lists P → List ℕ → Option (Listing P)
  list_of lists word = lookup (bytes_eq word) lists

  -- the entries of a word: none where it has no list
  abbrev pub entries_of : Lists P → List ℕ → List (ℕ × P)
  entries_of lists word = unwrap_or (option_map (λ l. l.entries) (list_of lists word)) []

  -- how many entries all lists have together
  abbrev pub entries_in_all : Lists P → ℕ
  entries_in_all lists = sum_by (λ row. length row.1.entries) lists

  -- The words rise, so none is there twice.
  abbrev pub WordsRise : Lists P → Type 0
  WordsRise lists = NamesRise (keys_of lists)

  -- the ids of each word's entries rise from 1 on
  abbrev pub IdsRise : Lists P → Type 0
  IdsRise lists = (word : List ℕ) → IfSome (list_of lists word) (λ l. RisesAbove 0 l.entries)

  -- a word has this list now, or none, and each other word has what it had
  abbrev pub Sets : List ℕ → Option (Listing P) → Lists P → Lists P → Type 0
  Sets word list old new = (other : List ℕ) → list_of new other ≡ update bytes_eq (list_of old) word list other

  -- the list of a word that has none yet: no entries, and the marker that is given next
  abbrev pub fresh_list : Markers → Listing P
  fresh_list markers = empty_list (marker_of markers)

  -- the word's list, or a fresh one
  abbrev pub list_or_fresh : Lists P → List ℕ → Markers → Listing P
  list_or_fresh lists word markers = unwrap_or (list_of lists word) (fresh_list markers)

  -- the first word with the prefix that is above `after`, and so the least, since words rise
  abbrev pub next_word : Lists P → List ℕ → Option (List ℕ) → Option (List ℕ)
  next_word lists prefix after = next_name (keys_of lists) prefix after

  -- the words above `after` and their lists, in order: all of them where it is none
  abbrev pub rows_after : Option (List ℕ) → Lists P → Lists P
  rows_after after lists = filter (λ row. is_after after row.0) lists

  -- A word and its list are taken from the front of those that are left, where there are any.
  abbrev pub IsNextRow : Lists P → Option (Bor (List ℕ) × Bor (Listing P)) → Lists P → Type 0
  IsNextRow left None rest = (left ≡ []) × (rest ≡ [])
  IsNextRow left (Some row) rest = left ≡ (row.0.now, row.1.now) ∷ rest

  -- The ids of each word rise, and the entries of all lists are counted.
  pub record IsKept (lists : Lists P) (count : ℕ) : Type 0 where
    pub ids : IdsRise lists
    pub counted : count ≡ entries_in_all lists
