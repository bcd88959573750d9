use Rattle.std.proofs.Common.{◌≤◌, [], length}
use Rattle.query_grammar.specs.Reading.{names_of, pairs_at}
use Rattle.query_parse.specs.NameKeys.{HasNames}
use Rattle.query_parse.specs.Seen.{pairs_of}
use Rattle.query_parse.proofs.Attributing.{Attributing}
use Rattle.query_parse.proofs.blocks.pairs_named.Given as goal

-- what is read from here is what all attributes give, and the names are those of the attributes so far
abbrev pub invariant-reading : goal.invariant-reading
invariant-reading l = record {
  reads : Attributing l.parser.def.now l.parser.params (pairs_of l.pairs.items) l.rest (pairs_at l.parser.def.now l.parser.params [] l.lexemes);
  named : HasNames l.names (names_of l.parser.def.now l.parser.params (pairs_of l.pairs.items));
  within : length l.rest ≤ length l.lexemes;
}

abbrev pub decreases-reading : goal.decreases-reading
decreases-reading l = length l.rest
