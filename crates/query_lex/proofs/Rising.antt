-- One lexeme more keeps the places rising.
use Rattle.std.proofs.Common.{ℕ, suc, ◌<◌, List, [], ◌∷◌, ◌++◌, Option, Some, None, arith}
use Rattle.query_lex.specs.declared.lexeme.LexKind.{LexKind}
use Rattle.query_lex.specs.declared.lexeme.Lexeme.{Lexeme}
use Rattle.query_lex.specs.Lexemes.{at_place}
use Rattle.query_lex.specs.Places.{Rise}

-- places before one offset and the place at it are before each later one
pub rises : (from end later : ℕ) (found : List Lexeme) (kind : Option LexKind) → end < later → Rise from end found → Rise from later (found ++ at_place end kind)
rises from end later [] None below rise = omega (arith, below, rise)
rises from end later [] (Some kind) below rise = (rise, omega (arith, below))
rises from end later (lexeme ∷ found) kind below rise = (rise.0, rises (suc lexeme.at) end later found kind below rise.1)
