-- What a text is answered, by reading its lexemes from the left.
use Rattle.std.specs.Prelude.{◌≡◌, ℕ, List, length, Result, Ok, Err}
use Rattle.ft_base.specs.declared.definition.IndexDef.{IndexDef}
use Rattle.ft_base.specs.declared.query.Param.{Param}
use Rattle.ft_base.specs.declared.query.Query.{Query}
use Rattle.query_lex.specs.Lexemes.{lexemes}
use Rattle.query_lex.specs.declared.fault.LexFault.{LexFault}
use Rattle.query_lex.specs.declared.fault.LexFault.TheVariants as lex_fault
use Rattle.query_lex.specs.declared.lexeme.Lexeme.{Lexeme}
use Rattle.query_grammar.specs.Answer.{lex_place}
use Rattle.query_grammar.specs.Reading.{answer_of, whole_at}
use Rattle.query_grammar.specs.declared.fault.QueryFault.{QueryFault}
use Rattle.query_grammar.specs.declared.fault.QueryFault.TheVariants.{Syntax, UnknownField, WrongKind, NoParam, TooDeep, OutOfScope, NoMemory}

-- what lexemes give, of a text of so many bytes; a fault of theirs comes before all others
abbrev pub read_with : IndexDef → List Param → ℕ → Result (List Lexeme) LexFault → Result Query QueryFault
read_with def params end (Ok ts) = answer_of end (whole_at def params ts)
read_with def params end (Err fault) = Err (Syntax (lex_place def params fault))

-- the tree of a text, or its first fault
abbrev pub query_read : IndexDef → List Param → List ℕ → Result Query QueryFault
query_read def params text = read_with def params (length text) (lexemes text)

-- a fault of the lexemes, as that of a text
abbrev pub lexical : LexFault → QueryFault
lexical (lex_fault.OpenQuote at) = Syntax at
lexical (lex_fault.LoneEscape at) = Syntax at
lexical lex_fault.NoMemory = NoMemory

-- The answer is what reading the text gives; running out of memory says nothing of it.
abbrev pub IsRead : Result Query QueryFault → Result Query QueryFault → Type 0
IsRead (Ok q) read = read ≡ Ok q
IsRead (Err NoMemory) read = Unit {0}
IsRead (Err (Syntax at)) read = read ≡ Err (Syntax at)
IsRead (Err (UnknownField at)) read = read ≡ Err (UnknownField at)
IsRead (Err (WrongKind at)) read = read ≡ Err (WrongKind at)
IsRead (Err (NoParam at)) read = read ≡ Err (NoParam at)
IsRead (Err (TooDeep at)) read = read ≡ Err (TooDeep at)
IsRead (Err (OutOfScope at)) read = read ≡ Err (OutOfScope at)

-- the same of a text
abbrev pub ParsedAs : IndexDef → List Param → List ℕ → Result Query QueryFault → Type 0
ParsedAs def params text answer = IsRead answer (query_read def params text)
