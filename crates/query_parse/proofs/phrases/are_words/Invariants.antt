use Rattle.std.proofs.Common.{◌≡◌, length, map}
use Rattle.query_grammar.specs.Faults.{is_else}
use Rattle.query_grammar.specs.Shape.{shape_of, together}
use Rattle.query_parse.proofs.phrases.are_words.Given as goal

-- the parts are words where those that are left are
abbrev pub invariant-comparing : goal.invariant-comparing
invariant-comparing l = is_else (together (map shape_of l.parts)) ≡ is_else (together (map shape_of l.rest))

abbrev pub decreases-comparing : goal.decreases-comparing
decreases-comparing l = length l.rest
