-- The words of each option of FT.SEARCH, behind the option's name (RediSearch).
use Rattle.std.specs.Prelude.{ℕ, List, [], ◌∷◌, length, drop, Bool, true, false, nat_le, ◌+◌, ◌-◌, ◌==◌, Option, Some, None, Ok, codes, if◌then◌else◌}
use Rattle.std.specs.List.{position_from}
use Rattle.ft_base.specs.Names.{is_name}
use Rattle.ft_base.specs.Reading.{◌>>=◌}
use Rattle.cmd_parse.specs.Words.{Word, Read, fault, word_at, number_at, counted_at}
use Rattle.cmd_parse.specs.declared.stop.Cause.TheVariants.{Syntax, Limit, OutOfScope}

-- a field by which what is found is sorted; its name is word `at` of the command
pub record Sort : Type 0 where
  pub at : ℕ
  pub field : Word
  pub descending : Bool

-- RETURN: the names of fields. The word AS among them is left out: the first one of the words behind their number, which is
-- at place 0 of `from`, has the fault.
abbrev pub is_as : Word → Bool
is_as name = is_name name (codes "AS")

abbrev pub unless_as : Option ℕ → List Word → List Word → List Word → Read (List Word)
unless_as None from names words = Ok (names, words)
unless_as (Some at) from names words = fault OutOfScope (drop at from)

abbrev pub names_at : List Word → Read (List Word)
names_at words = counted_at words >>= λ names. unless_as (position_from is_as 1 names.0) words names.0 names.1

-- INKEYS: one key at least
abbrev pub some_keys : List Word → List Word → List Word → Read (List Word)
some_keys from [] words = fault Syntax from
some_keys from (key ∷ keys) words = Ok (key ∷ keys, words)

abbrev pub keys_at : List Word → Read (List Word)
keys_at words = counted_at words >>= λ keys. some_keys words keys.0 keys.1

-- SORTBY: a field, and a direction or none
abbrev pub direction_at : List Word → Bool × List Word
direction_at [] = (false, [])
direction_at (word ∷ words) =
    if is_name word (codes "ASC") then (false, words) else (if is_name word (codes "DESC") then (true, words) else (false, word ∷ words))

abbrev pub sort_at : ℕ → List Word → Read Sort
sort_at total words =
    word_at words >>= λ field. Ok (record { at = total - length words; field = field.0; descending = (direction_at field.1).0 }, (direction_at field.1).1)

-- the most rows up to the end of a window
abbrev pub most_rows : ℕ
most_rows = 1000000

-- LIMIT: the place of the first row, and how many. The fault of a window that ends too far is at its first number.
abbrev pub window_with : List Word → ℕ → ℕ → List Word → Read (ℕ × ℕ)
window_with from offset num words = if nat_le (offset + num) most_rows then Ok ((offset, num), words) else fault Limit from

abbrev pub window_at : List Word → Read (ℕ × ℕ)
window_at words = do
  offset ← number_at words
  num ← number_at offset.1
  window_with words offset.0 num.0 num.1

-- DIALECT: 2 alone
abbrev pub dialect_at : List Word → Read ℕ
dialect_at words = number_at words >>= λ dialect. if dialect.0 == 2 then Ok dialect else fault OutOfScope words
