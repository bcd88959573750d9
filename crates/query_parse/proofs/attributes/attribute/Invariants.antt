use Rattle.std.proofs.Common.{◌≡◌, drop}
use Rattle.query_grammar.specs.Meaning.{attribute_of}
use Rattle.query_parse.specs.Seen.{pairs_of}
use Rattle.query_parse.proofs.attributes.attribute.Given as goal

-- what is not passed yet has the value of the name
abbrev pub invariant-loop-pair : goal.invariant-loop-pair
invariant-loop-pair l = attribute_of l.params l.name (pairs_of (drop l.pair-index l.pairs)) ≡ attribute_of l.params l.name (pairs_of l.pairs)
