-- The pieces of a tag brace: what stands between its bars, without the blanks around it.
use Rattle.std.specs.Prelude.{ℕ, ◌-◌, List, [], ◌∷◌, length, take, drop, map, Bool, true, false, ◌&&◌, ◌||◌, not, ◌==◌, Option, Some, None, Ok, if◌then◌else◌}
use Rattle.std.specs.List.{list_all, list_any}
use Rattle.ft_base.specs.Reading.{◌>>=◌}
use Rattle.query_lex.specs.declared.fault.Cause.TheVariants.{LoneEscape}
use Rattle.query_lex.specs.declared.lexeme.LexKind.{LexKind}
use Rattle.query_lex.specs.declared.lexeme.LexKind.TheVariants.{Param, Tag, Sign}
use Rattle.query_lex.specs.declared.lexeme.Sign.TheVariants as signs
use Rattle.query_lex.specs.declared.text_byte.TextByte.{TextByte}
use Rattle.query_lex.specs.Bytes.{is_of_name}
use Rattle.query_lex.specs.Quotes.{plain, escaped}
use Rattle.query_lex.specs.Reading.{Read, Next, fault, with_first, run_at}

-- the byte that a backslash escapes, behind it, whatever it is
abbrev pub tag_escape_at : List ℕ → Read TextByte
tag_escape_at [] = fault LoneEscape (92 ∷ [])
tag_escape_at (b ∷ rest) = Ok (escaped b, rest)

-- a byte of a piece, as it stands or escaped
abbrev pub tag_byte_at : ℕ → List ℕ → Read TextByte
tag_byte_at b rest = if b == 92 then tag_escape_at rest else Ok (plain b, rest)

-- a bar or a brace ends a piece
abbrev pub ends_piece : ℕ → Bool
ends_piece b = (b == 124) || (b == 125)

-- the next byte of a piece
unfoldable pub next_of_tag : List ℕ → Next TextByte
next_of_tag [] = Ok None
next_of_tag (b ∷ rest) = if ends_piece b then Ok None else (tag_byte_at b rest >>= λ byte. Ok (Some byte))

-- whether it is this byte, and not escaped
abbrev pub is_plain : ℕ → TextByte → Bool
is_plain byte b = not b.escaped && (b.byte == byte)

abbrev pub trimmed_with : TextByte → List TextByte → List TextByte
trimmed_with b [] = if is_plain 32 b then [] else b ∷ []
trimmed_with b (c ∷ bytes) = b ∷ c ∷ bytes

-- the piece without the blanks at its end that are not escaped
abbrev pub trimmed : List TextByte → List TextByte
trimmed [] = []
trimmed (b ∷ bytes) = trimmed_with b (trimmed bytes)

-- the bytes that the piece means
abbrev pub bytes_of : List TextByte → List ℕ
bytes_of piece = map (λ (b : TextByte). b.byte) piece

abbrev pub is_plain_of_name : TextByte → Bool
is_plain_of_name b = not b.escaped && is_of_name b.byte

abbrev pub is_name : List TextByte → Bool
is_name name = not (length name == 0) && list_all is_plain_of_name name

-- `$` and a name
abbrev pub is_param : List TextByte → Bool
is_param [] = false
is_param (b ∷ name) = is_plain 36 b && is_name name

-- the piece without its last byte
abbrev pub front_of : List TextByte → List TextByte
front_of piece = take (length piece - 1) piece

-- whether its last byte is this one, and not escaped
abbrev pub ends_in : ℕ → List TextByte → Bool
ends_in byte piece = list_any (is_plain byte) (drop (length piece - 1) piece)

-- what stands before a `*` at the end; a `*` alone is no tag
abbrev pub starred_kind : List TextByte → LexKind
starred_kind [] = Sign signs.Stray
starred_kind (b ∷ front) = Tag (bytes_of (b ∷ front)) true

-- A trimmed piece: a parameter, a prefix of tags where a `*` stands at its end, else a tag.
abbrev pub piece_kind : List TextByte → LexKind
piece_kind piece =
    if is_param piece then Param (bytes_of (drop 1 piece))
    else (if ends_in 42 piece then starred_kind (front_of piece)
    else Tag (bytes_of piece) false)

-- A piece, which begins with a byte that is no blank.
unfoldable pub piece_at : ℕ → List ℕ → Read (Option LexKind)
piece_at b rest = do
  first ← tag_byte_at b rest
  piece ← with_first first.0 (run_at next_of_tag first.1)
  Ok (Some (piece_kind (trimmed piece.0)), piece.1)
