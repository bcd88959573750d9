use Rattle.std.proofs.Common.{◌≤◌, length}
use Rattle.expr_eval.specs.Tokens.{tokens_of}
use Rattle.expr_eval.proofs.Lexing.{Lexes}
use Rattle.expr_eval.proofs.lexer.tokens.Given as goal

-- what was found and what is read from here are what the whole text gives
abbrev pub invariant-lexing : goal.invariant-lexing
invariant-lexing l = record {
  lexes : Lexes (length l.text) l.found.items l.rest (tokens_of l.text);
  within : length l.rest ≤ length l.text;
}

abbrev pub decreases-lexing : goal.decreases-lexing
decreases-lexing l = length l.rest
