-- Words, parameters, and the signs of more than one byte (RediSearch, query syntax, dialect 2).
use Rattle.std.specs.Prelude.{ℕ, List, [], ◌∷◌, length, take, drop, position, unwrap_or, Bool, ◌&&◌, ◌||◌, not, ◌==◌, codes, Option, Some, None, Ok, if◌then◌else◌}
use Rattle.std.specs.Str.{bytes_eq}
use Rattle.ft_base.specs.Reading.{◌>>=◌}
use Rattle.query_lex.specs.declared.fault.Cause.TheVariants.{LoneEscape}
use Rattle.query_lex.specs.declared.lexeme.LexKind.{LexKind}
use Rattle.query_lex.specs.declared.lexeme.LexKind.TheVariants.{Word, Prefix, Param, ParamPrefix, Foreign, Sign}
use Rattle.query_lex.specs.declared.lexeme.Sign.TheVariants as signs
use Rattle.query_lex.specs.Bytes.{begins_word, is_of_name, comes, is_at}
use Rattle.ft_base.specs.Separators.{is_separator}
use Rattle.query_lex.specs.Reading.{Read, Next, fault, with_first, run_at}

-- a lexeme, where the bytes before the others are one
abbrev pub Found : Type 0
Found = Option LexKind × List ℕ

-- The separator that a backslash escapes, behind it. A backslash before anything else escapes nothing.
abbrev pub escaped_at : List ℕ → Read ℕ
escaped_at [] = fault LoneEscape (92 ∷ [])
escaped_at (b ∷ rest) = if is_separator b then Ok (b, rest) else fault LoneEscape (92 ∷ b ∷ rest)

-- a byte of a word, as it stands or escaped
abbrev pub letter_at : ℕ → List ℕ → Read ℕ
letter_at b rest = if b == 92 then escaped_at rest else Ok (b, rest)

-- the next byte of a word
unfoldable pub next_letter : List ℕ → Next ℕ
next_letter [] = Ok None
next_letter (b ∷ rest) = if begins_word b then (letter_at b rest >>= λ letter. Ok (Some letter)) else Ok None

-- `w` before a quote mark is how patterns with wildcards begin
abbrev pub is_w : List ℕ → Bool
is_w word = bytes_eq word (codes "w") || bytes_eq word (codes "W")

-- a word by what directly follows it
abbrev pub word_with : List ℕ → List ℕ → Found
word_with word rest =
    if is_at 42 rest then (Some (Prefix word), drop 1 rest)
    else (if is_w word && is_at 39 rest then (Some (Foreign word), rest)
    else (Some (Word word), rest))

-- A word: the longest run of its bytes, of which there is one.
unfoldable pub word_at : ℕ → List ℕ → Read (Option LexKind)
word_at b rest = do
  first ← letter_at b rest
  word ← with_first first.0 (run_at next_letter first.1)
  Ok (word_with word.0 word.1)

abbrev pub ends_name : ℕ → Bool
ends_name b = not (is_of_name b)

-- how many bytes of a name come
abbrev pub name_length : List ℕ → ℕ
name_length bytes = unwrap_or (position ends_name bytes) (length bytes)

abbrev pub param_with : Bool → List ℕ → List ℕ → Found
param_with may_be_prefix [] rest = (None, rest)
param_with may_be_prefix (b ∷ name) rest =
    if may_be_prefix && is_at 42 rest then (Some (ParamPrefix (b ∷ name)), drop 1 rest)
    else (Some (Param (b ∷ name)), rest)

-- What stands behind a `$`: a parameter's name. A `$` without a name is a separator.
unfoldable pub param_at : Bool → List ℕ → Found
param_at may_be_prefix bytes = param_with may_be_prefix (take (name_length bytes) bytes) (drop (name_length bytes) bytes)

-- A `*` that is no word's: all documents, or the beginning of a suffix.
abbrev pub star_at : List ℕ → Found
star_at rest = if comes begins_word rest then (Some (Foreign (codes "*")), rest) else (Some (Sign signs.Star), rest)

-- `=` is of an arrow, or a separator
abbrev pub arrow_at : List ℕ → Found
arrow_at rest = if is_at 62 rest then (Some (Sign signs.Arrow), drop 1 rest) else (None, rest)
