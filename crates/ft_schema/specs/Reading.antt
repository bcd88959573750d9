-- Reading words from the left. Each reader answers what it read and the words after it, or the fault at which it stops.
use Rattle.std.specs.Prelude.{ℕ, ℤ, pos, negsuc, List, [], ◌∷◌, length, Bool, ◌&&◌, nat_le, Option, Some, None, Result, Ok, Err, if◌then◌else◌}
use Rattle.std.specs.Str.{str_to_ascii_lowercase}
use Rattle.ft_base.specs.Number.{int_of}
use Rattle.ft_base.specs.Weight.{is_weight}
use Rattle.ft_schema.specs.declared.fault.Cause.{Cause}
use Rattle.ft_schema.specs.declared.fault.Cause.TheVariants.{BadOption, BadNumber}
use Rattle.ft_schema.specs.declared.fault.Stop.{Stop}
use Rattle.ft_schema.specs.declared.fault.Stop.TheVariants.{Fault}
use Rattle.ft_schema.specs.Names.{Word}

-- what was read, and the words after it
abbrev pub Read : Type 0 → Type 0
Read A = Result (A × List Word) Stop

-- A fault at the first of these words; where there is none, at the end of all words.
abbrev pub fault : {A : Type 0} → Cause → List Word → Result A Stop
fault cause words = Err (Fault cause (length words))

-- the next word
abbrev pub word_at : List Word → Read Word
word_at [] = fault BadOption []
word_at (word ∷ words) = Ok (word, words)

-- a count of words that are there, which is at least so much
abbrev pub count_with : ℕ → Option ℤ → List Word → List Word → Read ℕ
count_with least None from words = fault BadNumber from
count_with least (Some (negsuc _)) from words = fault BadNumber from
count_with least (Some (pos n)) from words = if nat_le least n && nat_le n (length words) then Ok (n, words) else fault BadNumber from

-- A count of the words that follow it, in its one spelling.
unfoldable pub count_at : ℕ → List Word → Read ℕ
count_at least [] = fault BadOption []
count_at least (word ∷ words) = count_with least (int_of word) (word ∷ words) words

-- a word as it is kept, as it stands or in lower case
abbrev pub spelled : Bool → Word → Word
spelled lower word = if lower then str_to_ascii_lowercase word else word

-- a weight, which has no effect; what follows it
unfoldable pub weight_at : List Word → Result (List Word) Stop
weight_at [] = fault BadOption []
weight_at (word ∷ words) = if is_weight word then Ok words else fault BadNumber (word ∷ words)
