use Rattle.std.proofs.Common.{◌<◌, ◌+◌, ◌*◌, length}
use Rattle.query_grammar.specs.Grammar.{Inter, Union}
use Rattle.query_grammar.specs.Meaning.{all_of}
use Rattle.query_grammar.specs.Reading.{bar_at, deeper, inter_at, same, unary_at, unary_comes}
use Rattle.query_parse.specs.Reads.{reads}
use Rattle.query_parse.proofs.Joining.{Joining}
use Rattle.query_parse.proofs.parser.+parser.Given as goal

abbrev pub decreases-group : goal.decreases-group
decreases-group l = l.levels * 8

abbrev pub decreases-field : goal.decreases-field
decreases-field l = l.levels * 8

abbrev pub decreases-atom : goal.decreases-atom
decreases-atom l = l.levels * 8 + 1

abbrev pub decreases-part : goal.decreases-part
decreases-part l = l.levels * 8 + 2

abbrev pub decreases-denied_part : goal.decreases-denied_part
decreases-denied_part l = l.levels * 8

abbrev pub decreases-optional_part : goal.decreases-optional_part
decreases-optional_part l = l.levels * 8

abbrev pub decreases-target : goal.decreases-target
decreases-target l = l.levels * 8 + 4

abbrev pub decreases-unary : goal.decreases-unary
decreases-unary l = l.levels * 8 + 3

abbrev pub decreases-inter : goal.decreases-inter
decreases-inter l = l.levels * 8 + 4

abbrev pub decreases-union : goal.decreases-union
decreases-union l = l.levels * 8 + 5

-- what is read from here is what the whole side gives
abbrev pub invariant-inter-joining : goal.invariant-inter-joining
invariant-inter-joining l =
    let def = l.parser.def.now in
    let params = l.parser.params in
    record {
      reads : Joining unary_comes (unary_at def params (deeper def params l.levels) l.fields) same l.parts.items l.rest (reads def params l.fields l.levels Inter l.lexemes);
      shorter : length l.rest < length l.lexemes;
    }

abbrev pub decreases-inter-joining : goal.decreases-inter-joining
decreases-inter-joining l = length l.rest

-- what is read from here is what the whole union gives
abbrev pub invariant-union-joining : goal.invariant-union-joining
invariant-union-joining l =
    let def = l.parser.def.now in
    let params = l.parser.params in
    record {
      reads : Joining bar_at (inter_at def params (deeper def params l.levels) l.fields) all_of l.sides.items l.rest (reads def params l.fields l.levels Union l.lexemes);
      shorter : length l.rest < length l.lexemes;
    }

abbrev pub decreases-union-joining : goal.decreases-union-joining
decreases-union-joining l = length l.rest

abbrev pub decreases-inside : goal.decreases-inside
decreases-inside l = l.levels * 8 + 6

abbrev pub decreases-part_target : goal.decreases-part_target
decreases-part_target l = l.levels * 8 + 3
