use Rattle.std.proofs.Common.{◌≤◌, ◌-◌, length}
use Rattle.query_lex.specs.Lexemes.{lexed}
use Rattle.query_lex.specs.Places.{Rise}
use Rattle.query_lex.proofs.Lexing.{Lexes}
use Rattle.query_lex.proofs.lexer.lexed.Given as goal

-- What is read from here is what the whole text gives; and what was found stands before it.
abbrev pub invariant-lexing : goal.invariant-lexing
invariant-lexing l = record {
  lexes : Lexes (length l.text) l.found.items l.context l.rest (lexed l.text);
  within : length l.rest ≤ length l.text;
  places : Rise 0 (length l.text - length l.rest) l.found.items;
}

abbrev pub decreases-lexing : goal.decreases-lexing
decreases-lexing l = length l.rest
