use Rattle.std.proofs.Common.{◌≤◌, [], length}
use Rattle.query_grammar.specs.Reading.{names_at}
use Rattle.query_parse.proofs.Naming.{Naming}
use Rattle.query_parse.proofs.fields.names.Given as goal

-- what is read from here is what all names give
abbrev pub invariant-naming : goal.invariant-naming
invariant-naming l = record {
  reads : Naming l.parser.def.now l.parser.params l.numbers.items l.rest (names_at l.parser.def.now l.parser.params [] l.lexemes);
  within : length l.rest ≤ length l.lexemes;
}

abbrev pub decreases-naming : goal.decreases-naming
decreases-naming l = length l.rest
