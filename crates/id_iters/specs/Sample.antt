-- The index of the tests: two words, a tag and a range.
use Rattle.std.specs.Prelude.{ℕ, Bool, List, [], ◌∷◌, ◌==◌, Option, Some, None, if◌then◌else◌}
use Rattle.std.specs.List.{list_any}
use Rattle.std.specs.Str.{bytes_eq}
use Rattle.inverted_list.specs.Listing.{Listing}
use Rattle.posting_block.specs.declared.hits.NumHit.{NumHit}
use Rattle.posting_block.specs.declared.hits.TagHit.{TagHit}
use Rattle.posting_block.specs.declared.hits.TextHit.{TextHit}
use Rattle.id_iters.specs.Held.{Held}

-- the live ids
abbrev pub is_marked : ℕ → Bool
is_marked id = list_any (λ n. n == id) (1 ∷ 2 ∷ 4 ∷ 5 ∷ 6 ∷ 7 ∷ 8 ∷ 12 ∷ [])

-- the list of a word: `a` has the first, `b` the second, and no other word has one
abbrev pub word_of : Listing TextHit → Listing TextHit → List ℕ → Option (Listing TextHit)
word_of a b word = if bytes_eq word (97 ∷ []) then Some a else if bytes_eq word (98 ∷ []) then Some b else None

-- the lists and the live ids; each tag and each range has the one list of its kind
abbrev pub held_of : Listing TextHit → Listing TextHit → Listing TagHit → Listing NumHit → Held
held_of a b tags numbers = record {
  words = word_of a b;
  tags = λ field tag. Some tags;
  ranges = λ field low. Some numbers;
  live = is_marked;
}

-- an entry with these codes
abbrev pub entry : ℕ → List ℕ → ℕ × TextHit
entry id codes = (id, record { places = codes })

-- the entries of the word `a`, and of the word `b`
abbrev pub entries_a : List (ℕ × TextHit)
entries_a = entry 1 (0 ∷ []) ∷ entry 2 (0 ∷ []) ∷ entry 3 (0 ∷ 3 ∷ []) ∷ entry 5 (4294967296 ∷ []) ∷ entry 6 (1 ∷ []) ∷ entry 7 (0 ∷ 2 ∷ [])
    ∷ entry 12 (0 ∷ 4294967296 ∷ []) ∷ []

abbrev pub entries_b : List (ℕ × TextHit)
entries_b = entry 1 (1 ∷ []) ∷ entry 3 (1 ∷ []) ∷ entry 4 (0 ∷ []) ∷ entry 5 (0 ∷ []) ∷ entry 6 (0 ∷ []) ∷ entry 7 (1 ∷ [])
    ∷ entry 12 (3 ∷ 4294967297 ∷ []) ∷ []
