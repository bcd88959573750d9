-- Which text a list of lexemes spells, with what only separates them.
use Rattle.std.specs.Prelude.{ℕ, suc, ◌+◌, ◌<◌, List, [], ◌∷◌, ◌++◌, length, Bool, true, false, ◌&&◌, ◌||◌, not, ◌==◌, nat_eq, IsTrue, codes, if◌then◌else◌}
use Rattle.std.specs.List.{list_any}
use Rattle.query_lex.specs.declared.lexeme.LexKind.{LexKind}
use Rattle.query_lex.specs.declared.lexeme.LexKind.TheVariants as kinds
use Rattle.query_lex.specs.declared.lexeme.Lexeme.{Lexeme}
use Rattle.query_lex.specs.declared.lexeme.Sign.TheVariants.{TagOpen, TagClose, Stray}
use Rattle.query_lex.specs.Bytes.{comes, is_at}
use Rattle.query_lex.specs.Spelling.{is_name_byte, IsSpelling}
use Rattle.ft_base.specs.Separators.{is_separator}

-- bytes that are of a lexeme wherever they stand outside the braces of tags
abbrev pub is_kept : ℕ → Bool
is_kept b = list_any (nat_eq b) (codes "\"%()*-:@[\\]{|}~")

-- Whether a byte only separates, before the rest: in the braces of tags a blank and a bar, elsewhere `$` where no name
-- follows, `=` where no `>` does, and each other separator that is of no lexeme.
abbrev pub only_separates : Bool → ℕ → List ℕ → Bool
only_separates in_tags b rest =
    if in_tags then (b == 32) || (b == 124)
    else (if b == 36 then not (comes is_name_byte rest)
    else (if b == 61 then not (is_at 62 rest)
    else is_separator b && not (is_kept b)))

-- The braces of tags go from the sign that opens them to the one that closes them.
abbrev pub in_tags_behind : Bool → LexKind → Bool
in_tags_behind in_tags (kinds.Sign TagOpen) = true
in_tags_behind in_tags (kinds.Sign TagClose) = false
in_tags_behind in_tags other = in_tags

-- bytes that go on with a word: those that part no words, a backslash and `*`
abbrev pub goes_on_word : ℕ → Bool
goes_on_word b = not (is_separator b) || ((b == 92) || (b == 42))

-- bytes that go on with a run of raw bytes
abbrev pub goes_on_raw : ℕ → Bool
goes_on_raw b = not (list_any (nat_eq b) (codes " $([]:;}"))

-- what may follow a piece of tag braces: blanks, and then a bar, the brace that closes or the text's end
abbrev pub closes_piece : List ℕ → Bool
closes_piece [] = true
closes_piece (b ∷ rest) = (b == 124) || ((b == 125) || ((b == 32) && closes_piece rest))

-- In the braces of tags stand whole pieces before the rest (tags, parameters or a stray star), and the brace that closes.
abbrev pub is_piece : LexKind → List ℕ → Bool
is_piece (kinds.Tag tag prefix) rest = closes_piece rest
is_piece (kinds.Param name) rest = closes_piece rest
is_piece (kinds.Sign Stray) rest = closes_piece rest
is_piece (kinds.Sign TagClose) rest = true
is_piece other rest = false

-- Elsewhere stand no tags, and the rest does not go on with a word, a name or a run of raw bytes.
abbrev pub is_longest : LexKind → List ℕ → Bool
is_longest (kinds.Tag tag prefix) rest = false
is_longest (kinds.Word word) rest = not (comes goes_on_word rest)
is_longest (kinds.Param name) rest = not (comes is_name_byte rest)
is_longest (kinds.Raw run) rest = not (comes goes_on_raw rest)
is_longest other rest = true

-- the lexeme may stand before the rest
abbrev pub is_whole : Bool → LexKind → List ℕ → Bool
is_whole in_tags kind rest = if in_tags then is_piece kind rest else is_longest kind rest

-- From an offset on, in the braces of tags or not: the text ends, or a byte only separates, or a lexeme stands there,
-- whole and of one byte at least, and the others behind it.
pub data SpellsIn : Bool → ℕ → List ℕ → List Lexeme → Type 0 where
  no_more : {in_tags : Bool} {at : ℕ} → SpellsIn in_tags at [] []
  separator : {in_tags : Bool} {at b : ℕ} {text : List ℕ} {found : List Lexeme}
      → IsTrue (only_separates in_tags b text) → SpellsIn in_tags (suc at) text found
      → SpellsIn in_tags at (b ∷ text) found
  lexeme : {in_tags : Bool} {at : ℕ} {kind : LexKind} (bytes : List ℕ) {text : List ℕ} {found : List Lexeme}
      → 0 < length bytes → IsSpelling kind bytes → IsTrue (is_whole in_tags kind text)
      → SpellsIn (in_tags_behind in_tags kind) (at + length bytes) text found
      → SpellsIn in_tags at (bytes ++ text) (record { at = at; kind = kind } ∷ found)

-- From this offset on, the lexemes and what separates them spell the text.
abbrev pub Spells : ℕ → List ℕ → List Lexeme → Type 0
Spells at text found = SpellsIn false at text found
