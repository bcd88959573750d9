-- The names in what FT._LIST answered: the words of an array of bulk strings (RESP2), which are spelled as those of a request.
use Rattle.std.specs.Prelude.{ℕ, zero, suc, ℤ, pos, negsuc, List, [], ◌∷◌, Ok, Err}
use Rattle.ft_base.specs.declared.limits.TheConstants.{MAX_WORD_BYTES}
use Rattle.resp_wire.specs.Wire.{Read, count_at, word_at}

abbrev pub word_then : (List ℕ → List (List ℕ)) → Read (List ℕ) → List (List ℕ)
word_then others (Ok found) = found.0 ∷ others found.1
word_then others (Err stop) = []

-- that many words one after another, up to the first that cannot be read
abbrev pub words_from : ℕ → List ℕ → List (List ℕ)
words_from zero bytes = []
words_from (suc n) bytes = word_then (λ rest. words_from n rest) (word_at MAX_WORD_BYTES bytes)

-- the words behind the first line, as many as it announces
abbrev pub words_behind : ℤ → List ℕ → List (List ℕ)
words_behind (pos n) bytes = words_from n bytes
words_behind (negsuc _) bytes = []

abbrev pub words_read : Read ℤ → List (List ℕ)
words_read (Ok found) = words_behind found.0 found.1
words_read (Err stop) = []

-- The names in a reply. One that is no array has none.
abbrev pub names_in : List ℕ → List (List ℕ)
names_in reply = words_read (count_at reply)
