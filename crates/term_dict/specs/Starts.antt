-- Where the search for a word with a prefix begins, and what it finds.
use Rattle.std.specs.Prelude.{ℕ, cond, List, [], ◌∷◌, Option, None, Some, eqb}
use Rattle.std.specs.BTreeMap.Range.{is_from_start}
use Rattle.std.specs.List.{filter, starts_with}
use Rattle.std.specs.Ordering.{is_lt}
use Rattle.std.specs.declared.ops.Bound.{Bound}
use Rattle.std.specs.declared.ops.Bound.TheVariants.{Included, Excluded, Unbounded}
use Rattle.inverted_list.specs.Names.{word_cmp}

-- behind a word, or at the first
abbrev pub behind : Option (List ℕ) → Bound (List ℕ)
behind None = Unbounded
behind (Some word) = Excluded word

-- at the prefix, or behind a word that is not below it
abbrev pub start_of : List ℕ → Option (List ℕ) → Bound (List ℕ)
start_of prefix None = Included prefix
start_of prefix (Some word) = cond (is_lt (word_cmp word prefix)) (Included prefix) (Excluded word)

-- the words from a start on
abbrev pub words_from : Bound (List ℕ) → List (List ℕ) → List (List ℕ)
words_from start words = filter (λ word. is_from_start word_cmp start word) words

-- the first word, where it has the prefix
abbrev pub first_with : List ℕ → List (List ℕ) → Option (List ℕ)
first_with prefix [] = None
first_with prefix (word ∷ words) = cond (starts_with eqb word prefix) (Some word) None
