-- How contracts see the ends of ranges and the attributes that the code holds.
use Rattle.std.specs.Prelude.{List, map, option_map}
use Rattle.query_grammar.specs.Form as form
use Rattle.query_parse.specs.declared.blocks.Pair.{Pair}
use Rattle.query_parse.specs.declared.ranges.Edge.{Edge}

-- an end of a range
abbrev pub edge_of : Edge → form.Edge
edge_of edge = record { excluded = edge.excluded; value = edge.value.now }

-- an attribute
abbrev pub pair_of : Pair → form.Pair
pair_of pair = record { at = pair.at; name = pair.name.now; value = option_map (λ t. t.now) pair.value }

-- attributes in order
abbrev pub pairs_of : List Pair → List form.Pair
pairs_of = map pair_of
