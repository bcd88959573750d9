-- The words of a text, as TEXT fields are indexed and queries are read (RediSearch, tokenization and escaping).
use Rattle.std.specs.Prelude.{ℕ, suc, List, [], ◌∷◌, Bool, ◌&&◌, ◌==◌, map, Option, Some, None, if◌then◌else◌}
use Rattle.std.specs.List.{list_any}
use Rattle.std.specs.Str.{bytes_eq, str_to_ascii_lowercase}
use Rattle.ft_base.specs.Separators.{is_separator}
use Rattle.token_text.specs.declared.token.Token.{Token}

-- Each byte as a byte of a word, or none where it parts words. A backslash before a separator is dropped, and the
-- separator is of the word; a backslash that is escaped so escapes nothing.
abbrev pub units : List ℕ → List (Option ℕ)
units [] = []
units (b ∷ []) = (if is_separator b then None else Some b) ∷ []
units (b ∷ c ∷ rest) =
    if (b == 92) && is_separator c
    then Some c ∷ units rest
    else (if is_separator b then None else Some b) ∷ units (c ∷ rest)

-- a run of a word's bytes before the runs behind it; one without bytes is none
abbrev pub before : List ℕ → List (List ℕ) → List (List ℕ)
before [] runs = runs
before (b ∷ run) runs = (b ∷ run) ∷ runs

-- the run at the front, and the longest runs behind it
abbrev pub split : List (Option ℕ) → List ℕ × List (List ℕ)
split [] = ([], [])
split (Some b ∷ units) = let others = split units in (b ∷ others.0, others.1)
split (None ∷ units) = let others = split units in ([], before others.0 others.1)

-- the longest runs of bytes that no separator parts
abbrev pub runs : List ℕ → List (List ℕ)
runs text = let parts = split (units text) in before parts.0 parts.1

abbrev pub lowered : List ℕ → List ℕ
lowered word = str_to_ascii_lowercase word

abbrev pub is_stop : List (List ℕ) → List ℕ → Bool
is_stop stops word = list_any (bytes_eq word) stops

-- the words that are no stop words, numbered from a place on
abbrev pub numbered : List (List ℕ) → ℕ → List (List ℕ) → List Token
numbered stops place [] = []
numbered stops place (word ∷ words) = if is_stop stops word then numbered stops place words else record { place = place; word = word } ∷ numbered stops (suc place) words

-- The tokens of a text: the lowered runs, without stop words, which take no place; the others are numbered from 1.
abbrev pub tokens : List ℕ → List (List ℕ) → List Token
tokens text stops = numbered stops 1 (map lowered (runs text))
