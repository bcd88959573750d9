use Rattle.std.proofs.Common.{◌≡◌, ◌≤◌, List, length}
use Rattle.query_lex.specs.declared.text_byte.TextByte.{TextByte}
use Rattle.query_lex.specs.Reading.{run_at}
use Rattle.query_lex.specs.Quotes.{spelled, next_quoted}
use Rattle.query_lex.proofs.Runs.{Reads}
use Rattle.query_lex.proofs.quote.quoted.Given as goal

-- what is read from here is what is read of the whole quote
abbrev pub invariant-reading : goal.invariant-reading
invariant-reading l = record {
  seen : List TextByte;
  shown : l.text ≡ spelled seen;
  reads : Reads (next_quoted l.inside) seen l.rest (run_at (next_quoted l.inside) l.inside);
  within : length l.rest ≤ length l.inside;
}

abbrev pub decreases-reading : goal.decreases-reading
decreases-reading l = length l.rest
