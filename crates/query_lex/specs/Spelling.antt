-- How lexemes are written: which bytes spell each.
use Rattle.std.specs.Prelude.{◌≡◌, ℕ, List, [], ◌∷◌, ◌++◌, Bool, false, ◌&&◌, ◌||◌, not, ◌==◌, nat_lt, IsTrue, codes, if◌then◌else◌}
use Rattle.std.specs.List.{list_all, list_any}
use Rattle.std.specs.Str.{bytes_eq}
use Rattle.query_lex.specs.declared.lexeme.LexKind.{LexKind}
use Rattle.query_lex.specs.declared.lexeme.LexKind.TheVariants as kinds
use Rattle.query_lex.specs.declared.lexeme.Sign.{Sign}
use Rattle.query_lex.specs.declared.lexeme.Sign.TheVariants as signs
use Rattle.query_lex.specs.Escaping.{escaped_word}
use Rattle.ft_base.specs.Separators.{is_separator}

-- one of these texts
abbrev pub is_among : List (List ℕ) → List ℕ → Bool
is_among texts bytes = list_any (bytes_eq bytes) texts

-- A sign's own bytes. A stray one has those of a bracket, a brace or a star.
abbrev pub spellings : Sign → List (List ℕ)
spellings signs.Star = codes "*" ∷ []
spellings signs.Open = codes "(" ∷ []
spellings signs.Close = codes ")" ∷ []
spellings signs.Pipe = codes "|" ∷ []
spellings signs.Minus = codes "-" ∷ []
spellings signs.Tilde = codes "~" ∷ []
spellings signs.At = codes "@" ∷ []
spellings signs.Colon = codes ":" ∷ []
spellings signs.Arrow = codes "=>" ∷ []
spellings signs.RangeOpen = codes "[" ∷ []
spellings signs.RangeClose = codes "]" ∷ []
spellings signs.TagOpen = codes "{" ∷ []
spellings signs.TagClose = codes "}" ∷ []
spellings signs.AttrOpen = codes "{" ∷ []
spellings signs.AttrClose = codes "}" ∷ []
spellings signs.Semi = codes ";" ∷ []
spellings signs.Stray = codes "[" ∷ codes "]" ∷ codes "{" ∷ codes "}" ∷ codes "*" ∷ []

-- a byte of a parameter's name: of ASCII those that part no words, which are letters, digits and `_`
abbrev pub is_name_byte : ℕ → Bool
is_name_byte b = nat_lt b 128 && not (is_separator b)

-- a parameter's name, of one byte at least
abbrev pub names_param : List ℕ → Bool
names_param [] = false
names_param (b ∷ name) = list_all is_name_byte (b ∷ name)

-- a blank and `$` stand in no run of raw bytes
abbrev pub is_raw_byte : ℕ → Bool
is_raw_byte b = not ((b == 32) || (b == 36))

-- `\`, `|` and `}` stand in a tag behind a backslash alone
abbrev pub is_tag_byte : ℕ → Bool
is_tag_byte b = not ((b == 92) || ((b == 124) || (b == 125)))

-- the forms of query language that are left out, each by its first byte or word
abbrev pub foreign_forms : List (List ℕ)
foreign_forms = codes "%" ∷ codes "*" ∷ codes "w" ∷ codes "W" ∷ []

-- The inside of a quote, as it stands: a quote mark only behind a backslash, and a backslash only before a separator.
pub data IsQuoted : List ℕ → Type 0 where
  quoted_end : IsQuoted []
  quoted_byte : {b : ℕ} {bytes : List ℕ} → IsTrue (not ((b == 34) || (b == 92))) → IsQuoted bytes → IsQuoted (b ∷ bytes)
  quoted_escape : {b : ℕ} {bytes : List ℕ} → IsTrue (is_separator b) → IsQuoted bytes → IsQuoted (92 ∷ b ∷ bytes)

-- A tag: each byte as it stands or behind a backslash, and a prefix's `*` behind them.
pub data IsTag (prefix : Bool) : List ℕ → List ℕ → Type 0 where
  tag_end : IsTag prefix [] (if prefix then codes "*" else [])
  tag_byte : {b : ℕ} {tag bytes : List ℕ} → IsTrue (is_tag_byte b) → IsTag prefix tag bytes → IsTag prefix (b ∷ tag) (b ∷ bytes)
  tag_escape : {b : ℕ} {tag bytes : List ℕ} → IsTag prefix tag bytes → IsTag prefix (b ∷ tag) (92 ∷ b ∷ bytes)

-- the bytes spell the lexeme
abbrev pub IsSpelling : LexKind → List ℕ → Type 0
IsSpelling (kinds.Word word) bytes = bytes ≡ escaped_word word
IsSpelling (kinds.Prefix word) bytes = bytes ≡ escaped_word word ++ codes "*"
IsSpelling (kinds.Param name) bytes = (bytes ≡ codes "$" ++ name) × IsTrue (names_param name)
IsSpelling (kinds.ParamPrefix name) bytes = (bytes ≡ codes "$" ++ name ++ codes "*") × IsTrue (names_param name)
IsSpelling (kinds.Quote inside) bytes = (bytes ≡ codes "\"" ++ inside ++ codes "\"") × IsQuoted inside
IsSpelling (kinds.Raw run) bytes = (bytes ≡ run) × IsTrue (list_all is_raw_byte run)
IsSpelling (kinds.Tag tag prefix) bytes = IsTag prefix tag bytes
IsSpelling (kinds.Foreign form) bytes = (bytes ≡ form) × IsTrue (is_among foreign_forms form)
IsSpelling (kinds.Sign sign) bytes = IsTrue (is_among (spellings sign) bytes)
