-- The lexemes of a query's text (RediSearch, query syntax, dialect 2), or its first fault.
use Rattle.std.specs.Prelude.{ℕ, zero, suc, ◌-◌, List, [], ◌∷◌, ◌++◌, length, not, codes, Option, Some, None, Result, Ok, Err}
use Rattle.ft_base.specs.Reading.{◌>>=◌}
use Rattle.query_lex.specs.declared.context.Context.{Context}
use Rattle.query_lex.specs.declared.context.Context.TheVariants.{Text}
use Rattle.query_lex.specs.declared.role.Role.{Role}
use Rattle.query_lex.specs.declared.role.Role.TheVariants as role
use Rattle.query_lex.specs.declared.fault.Cause.{Cause}
use Rattle.query_lex.specs.declared.fault.Cause.TheVariants as causes
use Rattle.query_lex.specs.declared.fault.LexFault.{LexFault}
use Rattle.query_lex.specs.declared.fault.LexFault.TheVariants.{OpenQuote, LoneEscape, NoMemory}
use Rattle.query_lex.specs.declared.fault.Stop.{Stop}
use Rattle.query_lex.specs.declared.fault.Stop.TheVariants as stops
use Rattle.query_lex.specs.declared.lexeme.LexKind.{LexKind}
use Rattle.query_lex.specs.declared.lexeme.LexKind.TheVariants.{Foreign, Sign}
use Rattle.query_lex.specs.declared.lexeme.Lexeme.{Lexeme}
use Rattle.query_lex.specs.Context.{is_enclosed, context_behind}
use Rattle.query_lex.specs.Pieces.{piece_at}
use Rattle.query_lex.specs.Quotes.{quote_at}
use Rattle.query_lex.specs.Raw.{raw_at}
use Rattle.query_lex.specs.Reading.{Read}
use Rattle.query_lex.specs.Roles.{role_in}
use Rattle.query_lex.specs.Words.{word_at, param_at, star_at, arrow_at}

-- `%`, which begins a form that is left out
abbrev pub percent_at : List ℕ → Read (Option LexKind)
percent_at rest = Ok (Some (Foreign (codes "%")), rest)

-- The lexeme that a byte begins by its role, or none where it only separates.
abbrev pub lexeme_with : Role → Context → ℕ → List ℕ → Read (Option LexKind)
lexeme_with role.Word context b rest = word_at b rest
lexeme_with role.Dollar context b rest = Ok (param_at (not (is_enclosed context)) rest)
lexeme_with role.Quote context b rest = quote_at rest
lexeme_with role.Star context b rest = Ok (star_at rest)
lexeme_with role.Equals context b rest = Ok (arrow_at rest)
lexeme_with role.Percent context b rest = percent_at rest
lexeme_with (role.Sign sign) context b rest = Ok (Some (Sign sign), rest)
lexeme_with role.Raw context b rest = raw_at context b rest
lexeme_with role.Piece context b rest = piece_at b rest
lexeme_with role.Blank context b rest = Ok (None, rest)

unfoldable pub lexeme_at : Context → ℕ → List ℕ → Read (Option LexKind)
lexeme_at context b rest = lexeme_with (role_in context b) context b rest

-- a lexeme at the place of its first byte, where there is one
abbrev pub at_place : ℕ → Option LexKind → List Lexeme
at_place at None = []
at_place at (Some kind) = record { at = at; kind = kind } ∷ []

-- The lexemes that stand there, of a text of so many bytes. Each step takes a byte at least.
abbrev pub lexed_in : ℕ → ℕ → Context → List ℕ → Result (List Lexeme) Stop
lexed_in zero total context bytes = Ok []
lexed_in (suc n) total context [] = Ok []
lexed_in (suc n) total context (b ∷ bytes) = do
  first ← lexeme_at context b bytes
  others ← lexed_in n total (context_behind context first.0) first.1
  Ok (at_place (total - length (b ∷ bytes)) first.0 ++ others)

unfoldable pub lexed : List ℕ → Result (List Lexeme) Stop
lexed text = lexed_in (length text) (length text) Text text

abbrev pub fault_at : Cause → ℕ → LexFault
fault_at causes.OpenQuote at = OpenQuote at
fault_at causes.LoneEscape at = LoneEscape at

-- a fault at its place, in a text of so many bytes
abbrev pub fault_of : ℕ → Stop → LexFault
fault_of total stops.NoMemory = NoMemory
fault_of total (stops.Fault cause left) = fault_at cause (total - left)

abbrev pub placed : {A : Type 0} → ℕ → Result A Stop → Result A LexFault
placed total (Ok x) = Ok x
placed total (Err stop) = Err (fault_of total stop)

-- what a text is: its lexemes, or the first fault from the left
unfoldable pub lexemes : List ℕ → Result (List Lexeme) LexFault
lexemes text = placed (length text) (lexed text)
