use Rattle.std.proofs.Common.{◌≤◌, [], length}
use Rattle.query_grammar.specs.Reading.{tags_at}
use Rattle.query_parse.proofs.Tagging.{Tagging}
use Rattle.query_parse.proofs.tags.tags.Given as goal

-- what is read from here is what all tags give
abbrev pub invariant-reading : goal.invariant-reading
invariant-reading l = record {
  reads : Tagging l.parser.def.now l.parser.params l.case l.parts.items l.rest (tags_at l.parser.def.now l.parser.params l.case [] l.lexemes);
  within : length l.rest ≤ length l.lexemes;
}

abbrev pub decreases-reading : goal.decreases-reading
decreases-reading l = length l.rest
