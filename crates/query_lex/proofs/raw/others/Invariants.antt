use Rattle.std.proofs.Common.{◌≤◌, length}
use Rattle.query_lex.specs.Reading.{with_first, run_at}
use Rattle.query_lex.specs.Raw.{next_raw}
use Rattle.query_lex.proofs.Runs.{Reads}
use Rattle.query_lex.proofs.raw.others.Given as goal

-- what is read from here is what is read behind the first byte
abbrev pub invariant-reading : goal.invariant-reading
invariant-reading l = record {
  reads : Reads (next_raw l.context) l.run l.rest (with_first l.first (run_at (next_raw l.context) l.bytes));
  within : length l.rest ≤ length l.bytes;
}

abbrev pub decreases-reading : goal.decreases-reading
decreases-reading l = length l.rest
