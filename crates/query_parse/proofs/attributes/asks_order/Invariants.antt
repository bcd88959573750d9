use Rattle.std.proofs.Common.{◌≡◌, drop}
use Rattle.query_grammar.specs.Meaning.{asks_order}
use Rattle.query_parse.specs.Seen.{pairs_of}
use Rattle.query_parse.proofs.attributes.asks_order.Given as goal

-- those that are not passed yet ask for an order, if any do
abbrev pub invariant-loop-pair : goal.invariant-loop-pair
invariant-loop-pair l = asks_order (pairs_of (drop l.pair-index l.pairs)) ≡ asks_order (pairs_of l.pairs)
