-- What a byte begins where it stands (RediSearch, query syntax, dialect 2).
use Rattle.std.specs.Prelude.{ℕ, Bool, true, false, ◌||◌, ◌==◌, if◌then◌else◌}
use Rattle.query_lex.specs.declared.context.Context.{Context}
use Rattle.query_lex.specs.declared.context.Context.TheVariants.{AfterColon, AfterArrow, Range, Tags, Attributes}
use Rattle.query_lex.specs.declared.role.Role.{Role}
use Rattle.query_lex.specs.declared.role.Role.TheVariants as role
use Rattle.query_lex.specs.declared.lexeme.Sign.{Sign}
use Rattle.query_lex.specs.declared.lexeme.Sign.TheVariants as signs
use Rattle.query_lex.specs.Bytes.{begins_word}

-- `[` begins a range behind a colon alone
abbrev pub bracket_in : Context → Sign
bracket_in AfterColon = signs.RangeOpen
bracket_in context = signs.Stray

-- `{` begins tags behind a colon, and attributes behind an arrow
abbrev pub brace_in : Context → Sign
brace_in AfterColon = signs.TagOpen
brace_in AfterArrow = signs.AttrOpen
brace_in context = signs.Stray

-- signs of one byte: ( ) | - ~ @ : [ { ] }
unfoldable pub sign_role : Context → ℕ → Role
sign_role context b =
    if b == 40 then role.Sign signs.Open
    else (if b == 41 then role.Sign signs.Close
    else (if b == 124 then role.Sign signs.Pipe
    else (if b == 45 then role.Sign signs.Minus
    else (if b == 126 then role.Sign signs.Tilde
    else (if b == 64 then role.Sign signs.At
    else (if b == 58 then role.Sign signs.Colon
    else (if b == 91 then role.Sign (bracket_in context)
    else (if b == 123 then role.Sign (brace_in context)
    else (if (b == 93) || (b == 125) then role.Sign signs.Stray
    else role.Blank)))))))))

-- In the text: words, `$`, `"`, `*`, `=`, `%` and signs. Any other byte only separates.
unfoldable pub text_role : Context → ℕ → Role
text_role context b =
    if begins_word b then role.Word
    else (if b == 36 then role.Dollar
    else (if b == 34 then role.Quote
    else (if b == 42 then role.Star
    else (if b == 61 then role.Equals
    else (if b == 37 then role.Percent
    else sign_role context b)))))

-- in brackets: ( [ ] and `$` end a run of raw bytes, and so does a blank
unfoldable pub range_role : ℕ → Role
range_role b =
    if b == 32 then role.Blank
    else (if b == 40 then role.Sign signs.Open
    else (if b == 91 then role.Sign signs.Stray
    else (if b == 93 then role.Sign signs.RangeClose
    else (if b == 36 then role.Dollar
    else role.Raw))))

-- in the braces of tags: blanks and bars stand between pieces
unfoldable pub tag_role : ℕ → Role
tag_role b =
    if (b == 32) || (b == 124) then role.Blank
    else (if b == 125 then role.Sign signs.TagClose
    else role.Piece)

-- in the braces of attributes: ; } : and `$` end a run of raw bytes, and so does a blank
unfoldable pub attribute_role : ℕ → Role
attribute_role b =
    if b == 32 then role.Blank
    else (if b == 59 then role.Sign signs.Semi
    else (if b == 125 then role.Sign signs.AttrClose
    else (if b == 58 then role.Sign signs.Colon
    else (if b == 36 then role.Dollar
    else role.Raw))))

abbrev pub role_in : Context → ℕ → Role
role_in Range b = range_role b
role_in Tags b = tag_role b
role_in Attributes b = attribute_role b
role_in context b = text_role context b

abbrev pub is_raw_role : Role → Bool
is_raw_role role.Raw = true
is_raw_role other = false

-- whether the byte is kept as it stands
abbrev pub is_raw : Context → ℕ → Bool
is_raw context b = is_raw_role (role_in context b)
