-- The tags of a TAG field: its value is cut at each separator, and each piece loses the blanks at its
-- ends. Empty pieces are dropped. A to Z are lowered unless case matters. Each tag counts once.
use Rattle.std.specs.Prelude.{◌==◌, ℕ, Bool, true, false, not, List, [], ◌∷◌, map, if◌then◌else◌}
use Rattle.std.specs.List.{filter, slice_split}
use Rattle.std.specs.Str.{bytes_eq, str_to_ascii_lowercase}

-- without the blanks in front
abbrev pub trim_front : List ℕ → List ℕ
trim_front [] = []
trim_front (b ∷ bs) = if b == 32 then trim_front bs else b ∷ bs

-- a byte in front of others; a blank in front of none is dropped
abbrev pub before : ℕ → List ℕ → List ℕ
before b [] = if b == 32 then [] else b ∷ []
before b (c ∷ cs) = b ∷ c ∷ cs

-- without the blanks behind
abbrev pub trim_back : List ℕ → List ℕ
trim_back [] = []
trim_back (b ∷ bs) = before b (trim_back bs)

abbrev pub trimmed : List ℕ → List ℕ
trimmed piece = trim_back (trim_front piece)

abbrev pub is_some_byte : List ℕ → Bool
is_some_byte [] = false
is_some_byte (b ∷ bs) = true

-- the pieces between separators, trimmed, without the empty ones
abbrev pub pieces : List ℕ → ℕ → List (List ℕ)
pieces text separator = filter is_some_byte (map trimmed (slice_split (λ b. b == separator) text))

-- as a tag is compared
abbrev pub cased : Bool → List ℕ → List ℕ
cased case tag = if case then tag else str_to_ascii_lowercase tag

-- each once, in order of first appearance
abbrev pub firsts : List (List ℕ) → List (List ℕ)
firsts [] = []
firsts (x ∷ xs) = x ∷ filter (λ y. not (bytes_eq x y)) (firsts xs)

abbrev pub tags_of : List ℕ → ℕ → Bool → List (List ℕ)
tags_of text separator case = firsts (map (cased case) (pieces text separator))
