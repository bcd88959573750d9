use Rattle.std.proofs.Common.{◌≤◌, length}
use Rattle.query_lex.specs.Reading.{with_first, run_at}
use Rattle.query_lex.specs.Pieces.{next_of_tag}
use Rattle.query_lex.proofs.Runs.{Reads}
use Rattle.query_lex.proofs.piece.others.Given as goal

-- what is read from here is what is read behind the first byte
abbrev pub invariant-reading : goal.invariant-reading
invariant-reading l = record {
  reads : Reads next_of_tag l.piece.items l.rest (with_first l.fn.first (run_at next_of_tag l.bytes));
  within : length l.rest ≤ length l.bytes;
}

abbrev pub decreases-reading : goal.decreases-reading
decreases-reading l = length l.rest
