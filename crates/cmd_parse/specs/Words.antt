-- Reading the words of a command from the left. Each reader answers what it read and the words behind it, or the fault at
-- which it stops.
use Rattle.std.specs.Prelude.{ℕ, ℤ, pos, negsuc, List, [], ◌∷◌, length, take, drop, nat_le, Option, Some, None, Result, Ok, Err, if◌then◌else◌}
use Rattle.ft_base.specs.Number.{int_of}
use Rattle.ft_base.specs.Reading.{◌>>=◌}
use Rattle.cmd_parse.specs.declared.stop.Cause.{Cause}
use Rattle.cmd_parse.specs.declared.stop.Cause.TheVariants.{Syntax}
use Rattle.cmd_parse.specs.declared.stop.Stop.{Stop}
use Rattle.cmd_parse.specs.declared.stop.Stop.TheVariants.{Fault}

abbrev pub Word : Type 0
Word = List ℕ

-- what was read, and the words after it
abbrev pub Read : Type 0 → Type 0
Read A = Result (A × List Word) Stop

-- a fault at the first of these words; where there is none, at the end of all words
abbrev pub fault : {A : Type 0} → Cause → List Word → Result A Stop
fault cause words = Err (Fault cause (length words))

-- the next word
abbrev pub word_at : List Word → Read Word
word_at [] = fault Syntax []
word_at (word ∷ words) = Ok (word, words)

-- a number that is not negative; where there is none, the fault is at the word that should be one
abbrev pub number_with : Option ℤ → List Word → List Word → Read ℕ
number_with None from words = fault Syntax from
number_with (Some (negsuc n)) from words = fault Syntax from
number_with (Some (pos n)) from words = Ok (n, words)

-- the next word as a number, in its one spelling
unfoldable pub number_at : List Word → Read ℕ
number_at [] = fault Syntax []
number_at (word ∷ words) = number_with (int_of word) (word ∷ words) words

-- so many words, where they are there; where they are not, the fault is at their number
abbrev pub so_many : List Word → ℕ → List Word → Read (List Word)
so_many from count words = if nat_le count (length words) then Ok (take count words, drop count words) else fault Syntax from

-- a number, and so many words behind it
abbrev pub counted_at : List Word → Read (List Word)
counted_at words = number_at words >>= λ count. so_many words count.0 count.1
