use Rattle.std.proofs.Common.{◌≡◌, ◌≤◌, length, false}
use Rattle.expr_eval.specs.Tokens.{text_in}
use Rattle.expr_eval.proofs.Lexing.{with_bytes}
use Rattle.expr_eval.proofs.lexer.inside.Given as goal

-- the bytes so far and what is read from here are the whole text
abbrev pub invariant-reading : goal.invariant-reading
invariant-reading l = record {
  reads : with_bytes l.text (text_in l.quote l.escaped l.rest) ≡ text_in l.quote false l.bytes;
  within : length l.rest ≤ length l.bytes;
}

abbrev pub decreases-reading : goal.decreases-reading
decreases-reading l = length l.rest
